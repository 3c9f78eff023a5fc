-- Claims: the loops over the ports, and that the lists which they fill say what the rules say of claims.
use mathlib.Core.Path.{◌≡◌, refl, sym, ap, ◌∙◌}
use mathlib.Core.Bool.{Bool, true, false, cond, not, ◌&&◌, ◌||◌}
use mathlib.Core.List.{List}
use mathlib.Core.Logic.{dite}
use Prim.Native.Nat.{ℕ, zero, suc, ◌+◌, ◌*◌, ◌/◌, ◌%◌, ◌≤◌, ◌<◌, min}
use native.Mathlib.Decide.{dec_lt, ℕ_discrete}
use native.Mathlib.Numerals.{add-one}
use native.Mathlib.Omega.{arith}
use lib.Dec.{eqb, ltb}
use lib.ListN.{length, get_or, set, replicate, length-replicate, get_or-replicate}
use borrow.Author.Tests.{lt-ltb, le-ltb, ltb-true, eq-eqb, ne_eqb, eqb-true, eqb-false, not-true}
use Rattle.std.specs.Prelude.{Option, Some, None}
use Rattle.std.proofs.Math.ListN.{get_or-map}
use Rattle.std.proofs.lemmas.List.{length-map, map-set, get_or-map as get_or-within}
use Rattle.lists.specs.Table.{table}
use Rattle.lists.proofs.Tables.{get_d-table, is-table, same-table, set-table}
use Rattle.lists.proofs.Tests.{and_left, and_right, both, every-all, every-not}
use Rattle.plan.specs.Fields.{nobody}
use Rattle.plan.specs.Inner.Memory.{at}
use Rattle.plan.specs.Refusals.{count_in}
use Rattle.mend.specs.Claims.{last, damaged, pointed, claims, claimant, once, uncontested}
use Rattle.mend.specs.Mended.{ports_for}
use Rattle.mend.specs.Inner.Steps.{Fronted, marks, peer_in, peers_in, pointed_all, claimant_below, claimants_in, contest_at, contest, lowest, contested, ports_in}
use Rattle.mend.proofs.Last.{last_found, last-same, last-most}
use Rattle.mend.proofs.Marked.{marks-at}

-- ---- the loop over the claims: who claims each port, of the first n ports

pub record Claimed (l : List ℕ) (n : ℕ) (out : List (Option ℕ)) : Type 0 where
  pub within : n ≤ 256
  pub same : peers_in out ≡ table 256 (claimant_below l n)

abbrev no-claims : List (Option ℕ)
no-claims = replicate 256 None

pub claimed-none : (l : List ℕ) → Claimed l 0 no-claims
unfolding last
claimed-none l =
    record {
      within = omega arith;
      same =
          is-table 256 _ _ nobody (length-map no-claims peer_in ∙ length-replicate {A = Option ℕ} 256 None)
          (λ i h. get_or-map peer_in no-claims i None ∙ ap peer_in (get_or-replicate {A = Option ℕ} 256 i None None h));
    }

-- port n takes the place of the others at what it claims
claimant-more : (l : List ℕ) (n t : ℕ) → claimant_below l (n + 1) t ≡ cond (eqb (at l n) t) n (claimant_below l n t)
unfolding last
claimant-more l n t = rw add-one

pub claimed-more : {l : List ℕ} {n : ℕ} {out after : List (Option ℕ)} → Claimed l n out → n < 256 → after ≡ cond (ltb (at l n) 256) (set out (at l n) (Some n)) out
    → Claimed l (n + 1) after
claimed-more {l} {n} {out} v h e =
    record {
      within = omega arith;
      same =
          ap peers_in e
          ∙ dite (dec_lt (at l n) 256)
          (λ w.
          rw (lt-ltb _ _ w, map-set peer_in out (at l n) (Some n), v.same)
          (set-table 256 (claimant_below l n) (claimant_below l (n + 1)) (at l n) n w (rw (claimant-more l n (at l n), eq-eqb (at l n) (at l n) refl))
          (λ k g q. rw (claimant-more l n k, ne_eqb (at l n) k (λ r. q (sym r))))))
          (λ w. rw (le-ltb (at l n) 256 (omega arith)) (v.same ∙ same-table 256 _ _ (λ k g. sym (rw (claimant-more l n k, ne_eqb (at l n) k (omega arith))))));
    }

pub claimed-all : {l : List ℕ} {n : ℕ} {out : List (Option ℕ)} → Claimed l n out → 256 ≤ n → peers_in out ≡ claimants_in l
unfolding claimants_in
claimed-all {l} {n} v h = let e : n ≡ 256 = omega (arith, v.within) in v.same ∙ ap (λ k. table 256 (claimant_below l k)) e

-- the peer that a claim makes, among those that all of them make
pub claimed-at : (claimants : List (Option ℕ)) (t : ℕ) → t < length claimants → at (peers_in claimants) t ≡ peer_in (get_or claimants t None)
claimed-at claimants t h = get_or-within peer_in claimants t None 0 h

-- ---- the loop over the contests: the lowest block of the first n ports

pub record Lowest (f : ℕ → ℕ) (n low : ℕ) : Type 0 where
  pub within : n ≤ 256
  pub is : low ≡ lowest f n
  pub most : low ≤ 33

module _ {f : ℕ → ℕ} where
  pub lowest-none : Lowest f 0 33
  unfolding lowest
  lowest-none = record { within = omega arith; is = refl; most = omega arith }

  pub lowest-next : {n low here next : ℕ} → Lowest f n low → n < 256 → here ≡ f n → next ≡ min low here → Lowest f (n + 1) next
  unfolding lowest
  lowest-next v h e w = record { within = omega arith; is = rw (add-one, ← v.is, ← e) w; most = omega (arith, v.most) }

  pub lowest-all : {n low : ℕ} → Lowest f n low → 256 ≤ n → low ≡ lowest f 256
  lowest-all {n} v h = let e : n ≡ 256 = omega (arith, v.within) in v.is ∙ ap (lowest f) e

-- none of them is lower, and it is one of them
pub lowest-below : (f : ℕ → ℕ) (n q : ℕ) → q < n → lowest f n ≤ f q
unfolding lowest
lowest-below f zero q h = absurd (omega arith)
lowest-below f (suc n) q h = elim (ℕ_discrete q n) [ yes e ↦ rw e (omega arith) | no e ↦ omega (arith, lowest-below f n q (omega arith)) ]

pub lowest-at : (f : ℕ → ℕ) (n : ℕ) → (lowest f n ≡ 33 → ⊥) → (q : ℕ) × ((q < n) × (f q ≡ lowest f n))
unfolding lowest
lowest-at f zero z = absurd (z refl)
lowest-at f (suc n) z =
    dite (dec_lt (f n) (lowest f n))
    (λ h. (n, (omega arith, omega arith)))
    (λ h.
    let e : min (lowest f n) (f n) ≡ lowest f n = omega arith in
    let r = lowest-at f n (λ w. z (e ∙ w)) in
    (r.0, (omega (arith, r.1.0), r.1.1 ∙ sym e)))

-- ---- the lists say what the rules say

module _ (file : List ℕ) where
  pub pointed-at : (q : ℕ) → q < 256 → at (pointed_all file) q ≡ pointed file q
  unfolding pointed_all
  pointed-at q h = get_d-table {A = ℕ} 256 (pointed file) q 0 h

  pub claimant-at : (t : ℕ) → t < 256 → at (table 256 (claimant file)) t ≡ claimant file t
  claimant-at t h = get_d-table {A = ℕ} 256 (claimant file) t 0 h

  -- the list of claimants, how large they are, and the ports of a router by it
  pub claimants-are : claimants_in (pointed_all file) ≡ table 256 (claimant file)
  unfolding claimants_in claimant claims
  claimants-are = same-table 256 _ _ (λ t h. last-same 256 _ _ nobody (λ q l. ap (λ k. eqb k t) (pointed-at q l)))

  pub claimant-most : (t : ℕ) → claimant file t ≤ 256
  unfolding claimant
  claimant-most t = last-most 256 (claims file t) nobody 256 (omega arith) (omega arith)

  pub ports-are : (d : ℕ) → d < 32 → ports_in (table 256 (claimant file)) d ≡ ports_for file d
  unfolding ports_in ports_for
  ports-are d h = ap (λ k. 1 + k) (last-same 8 _ _ 0 (λ p l. ap (λ k. not (eqb k nobody)) (claimant-at (8 * d + p) (omega arith))))

-- ---- contests

-- port t is one of a device whose block is damaged
abbrev broken : List ℕ → ℕ → Bool
broken file t = ltb (t / 8) (count_in file) && damaged file (t / 8)

-- port q leads to port t of a damaged device, and another port claims it too
record Contests (file : List ℕ) (q t : ℕ) : Type 0 where
  leads : pointed file q ≡ t
  port : t < 256
  other : claimant file t ≡ q → ⊥
  marked : broken file t ≡ true

-- the number is that of the first block of a damaged device of which two ports claim one
pub record FirstContest (file : List ℕ) (number : ℕ) : Type 0 where
  pub device : ℕ
  pub within : device < count_in file
  pub is : number ≡ 1 + device
  pub fails : uncontested file device ≡ false
  pub before : (e : ℕ) → e < device → uncontested file e ≡ true

not-both : (a b : Bool) → (a ≡ true → b ≡ true → ⊥) → not (a && b) ≡ true
not-both true true h = absurd (h refl refl)
not-both true false h = refl
not-both false b h = refl

if-so : (a b : Bool) → (a ≡ true → b ≡ true) → (not a || b) ≡ true
if-so true b h = h refl
if-so false b h = refl

passed : (b : Bool) (k : ℕ) → (cond b k 33 ≡ 33 → ⊥) → b ≡ true
passed true k z = refl
passed false k z = absurd (z refl)

module _ (file : List ℕ) where
  -- what port q finds at port t, at where it leads, and the lowest of all
  abbrev leading : ℕ → ℕ → ℕ
  leading t q = contest_at t q (table 256 (claimant file)) (marks file)

  abbrev here : ℕ → ℕ
  here = contest (pointed_all file) (table 256 (claimant file)) (marks file)

  abbrev low : ℕ
  low = lowest here 256

  -- what the search answers
  abbrev pub answer : Option ℕ
  answer = contested (pointed_all file) (table 256 (claimant file)) (marks file)

  to-port : (t q : ℕ) → t < 256 → leading t q ≡ cond (not (eqb (claimant file t) q) && broken file t) (1 + t / 8) 33
  unfolding contest_at
  to-port t q h = rw (lt-ltb t 256 h, claimant-at file t h, marks-at file (t / 8) (omega arith))

  to_none : (t q : ℕ) → 256 ≤ t → leading t q ≡ 33
  unfolding contest_at
  to_none t q h = rw (le-ltb t 256 h)

  -- what a contest says, and that one is found
  contests : (q : ℕ) → q < 256 → (here q ≡ 33 → ⊥) → Contests file q (pointed file q)
  contests q h z =
      let t = pointed file q in
      let o = not (eqb (claimant file t) q) in
      let e : here q ≡ leading t q = ap (λ k. leading k q) (pointed-at file q h) in
      dite (dec_lt t 256)
      (λ g.
      let w : (o && broken file t) ≡ true = passed _ (1 + t / 8) (λ y. z (e ∙ to-port t q g ∙ y)) in
      record { leads = refl; port = g; other = eqb-false _ _ (not-true _ (and_left o (broken file t) w)); marked = and_right o (broken file t) w })
      (λ g. absurd (z (e ∙ to_none t q (omega arith))))

  contest-at : {q t : ℕ} → q < 256 → Contests file q t → here q ≡ 1 + t / 8
  contest-at {q} {t} h v =
      ap (λ k. leading k q) (pointed-at file q h ∙ v.leads) ∙ to-port t q v.port ∙ simp (ne_eqb (claimant file t) q v.other, v.marked)

  -- the port that is contested is claimed twice
  twice : (t : ℕ) {a b : ℕ} → claims file t a ≡ true → claims file t b ≡ true → a < 256 → b < a → once file t ≡ false
  unfolding once
  twice t {a} {b} p q h l = every-not 256 _ a h (every-not a _ b l (ap not (both _ _ p q)))

  contests-twice : {q t : ℕ} → q < 256 → Contests file q t → once file t ≡ false
  unfolding claimant claims
  contests-twice {q} {t} h v =
      let mine : claims file t q ≡ true = eq-eqb _ _ v.leads in
      let l = last_found 256 (claims file t) nobody q h mine in
      dite (dec_lt q (claimant file t)) (λ g. twice t l.1 mine l.0 g) (λ g. twice t mine l.1 h (omega (arith, v.other)))

  contests-fails : {q t : ℕ} → q < 256 → Contests file q t → uncontested file (t / 8) ≡ false
  unfolding uncontested
  contests-fails {q} {t} h v =
      let e : 8 * (t / 8) + t % 8 ≡ t = omega arith in
      rw (and_right (ltb (t / 8) (count_in file)) (damaged file (t / 8)) v.marked, every-not 8 (λ p. once file (8 * (t / 8) + p)) (t % 8) (omega arith) (rw e (contests-twice h v)))

  -- no block below the lowest is contested
  only-once : (t : ℕ) → t < 256 → broken file t ≡ true → 1 + t / 8 < low → once file t ≡ true
  unfolding once claims
  only-once t g m w =
      let none : (q : ℕ) → q < 256 → claims file t q ≡ true → (claimant file t ≡ q → ⊥) → ⊥ =
      λ q h x z. omega (arith, lowest-below here 256 q h, contest-at h (record { leads = eqb-true _ _ x; port = g; other = z; marked = m })) in
      every-all 256 _
      (λ a h. every-all a _
      (λ b l. not-both (claims file t a) (claims file t b) (λ x y. elim (ℕ_discrete (claimant file t) a) [ yes e ↦ none b (omega arith) y (omega arith) | no e ↦ none a h x e ])))

  below-lowest : (d : ℕ) → d < count_in file → d < 32 → 1 + d < low → uncontested file d ≡ true
  unfolding uncontested
  below-lowest d h l w =
      if-so (damaged file d) _
      (λ m. every-all 8 _
      (λ p k.
      let e : (8 * d + p) / 8 ≡ d = omega arith in
      only-once (8 * d + p) (omega arith) (rw e (both _ _ (lt-ltb d (count_in file) h) m)) (omega arith)))

  module _ (front : Fronted file) where
    first_found : (low ≡ 33 → ⊥) → FirstContest file low
    first_found z =
        let r = lowest-at here 256 z in
        let v = contests r.0 r.1.0 (λ w. z (sym r.1.1 ∙ w)) in
        let n : pointed file r.0 / 8 < count_in file = ltb-true _ _ (and_left _ _ v.marked) in
        let i : low ≡ 1 + pointed file r.0 / 8 = sym r.1.1 ∙ contest-at r.1.0 v in
        record {
          device = pointed file r.0 / 8;
          within = n;
          is = i;
          fails = contests-fails r.1.0 v;
          before = λ e l. below-lowest e (omega arith) (omega (arith, front.few)) (omega arith);
        }

    -- the search answers nothing where no block is contested, and else the first that is
    pub contested-none : answer ≡ None → (d : ℕ) → d < count_in file → uncontested file d ≡ true
    unfolding contested
    contested-none e d h =
        elim (ℕ_discrete low 33) [
          | yes w ↦ below-lowest d h (omega (arith, front.few)) (omega (arith, front.few))
          | no w ↦ absurd (some-none (rw (ne_eqb low 33 w) at e))
        ]
      where
        some-none : {n : ℕ} → Some n ≡ None → ⊥
        some-none z = cc

    pub contested-first : {block : ℕ} → Some block ≡ answer → FirstContest file block
    unfolding contested
    contested-first {block} z =
        elim (ℕ_discrete low 33) [
          | yes w ↦ absurd (none-some (rw (eq-eqb low 33 w) at z))
          | no w ↦ let e : Some block ≡ Some low = rw (ne_eqb low 33 w) at z in let is : block ≡ low = cc in rw is (first_found w)
        ]
      where
        none-some : {n : ℕ} → Some n ≡ None → ⊥
        none-some z = cc
