-- What each return of the code's visits has seen, at every depth that is enough, and each turn over the ports.
use mathlib.Core.Path.{◌≡◌, sym, ◌∙◌}
use mathlib.Core.Bool.{true, false}
use mathlib.Core.List.{List}
use Prim.Native.Nat.{ℕ, zero, suc, ◌+◌, ◌-◌, ◌≤◌, ◌<◌}
use native.Mathlib.Omega.{arith}
use Rattle.bits.specs.Set.{join}
use Rattle.reach.specs.Visits.{is_new, seen, onward}
use Rattle.reach.specs.declared.visits.Seen.{Seen}
use Rattle.reach.specs.Inner.Depth.{left, Few, Finds}
use Rattle.reach.proofs.VisitLaws.{entered, new-says, passes, has, next, device, port, device-met, device-ends, device-passes, port-ends, port-goes, device-spends}

-- it is enough to look above the first step
above : (visit : ℕ → Seen) (bound : ℕ) (r : Seen) → ((depth : ℕ) → bound ≤ depth → r ≡ visit (suc depth)) → Finds visit bound r
above visit bound r step zero l = absurd (omega arith)
above visit bound r step (suc depth) l = step depth (omega arith)

-- a device that joined is one fewer
pub shorter : (d set joined : ℕ) → joined ≡ join set d → is_new set d ≡ true → left joined + 10 ≤ left set
shorter d set joined j n = let f = new-says set d n in rw j (entered d set f.0 f.1)

module _ (role ports : List ℕ) (to : ℕ → ℕ) where
  abbrev FromDevice : ℕ → ℕ → Seen → Type 0
  FromDevice d set r = Finds (λ depth. device role ports to depth d set) (left set) r

  abbrev FromPort : ℕ → ℕ → Seen → Seen → Type 0
  FromPort d p s r = Finds (λ depth. port role ports to depth d p s) (left s.set + (9 - p)) r

  module _ (d set : ℕ) where
    pub again : is_new set d ≡ false → FromDevice d set (seen set 0)
    again n = above _ _ _ (λ depth _. sym (device-met role ports to depth d set n))

    module _ (joined : ℕ) (j : joined ≡ join set d) (n : is_new set d ≡ true) where
      pub node : (r : Seen) → r ≡ seen joined 0 → passes role ports to d ≡ false → FromDevice d set r
      node r q e = above _ _ r (λ depth _. q ∙ rw j (sym (device-ends role ports to depth d set n e)))

      pub router : (r : Seen) → passes role ports to d ≡ true → FromPort d 0 (seen joined 0) r → FromDevice d set r
      router r e w =
          above _ _ r (λ depth l. w depth (omega (arith, shorter d set joined j n)) ∙ rw j (sym (device-passes role ports to depth d set n e)))

  last : (d p : ℕ) (s : Seen) → has role ports to d ≤ p → FromPort d p s s
  last d p s h = above _ _ s (λ depth _. sym (port-ends role ports to depth d p s h))

  module _ (few : Few ports) where
    -- what is left goes down by what was examined
    no_more : (e set : ℕ) (behind : Seen) → FromDevice e set behind → behind.examined + left behind.set ≤ left set
    no_more e set behind w = rw (w (suc (left set)) (omega arith)) (device-spends role ports to few (suc (left set)) e set)

    goes_on : (e d p : ℕ) (s behind r : Seen) → FromDevice e s.set behind → e ≡ next role ports to d p → p < has role ports to d
        → FromPort d (p + 1) (onward s behind) r → FromPort d p s r
    goes_on e d p s behind r w q h v =
        above _ _ r (λ depth l.
        v depth (omega (arith, no_more e s.set behind w, few d)) ∙ rw (w depth (omega (arith, few d)), q) (sym (port-goes role ports to depth d p s h)))

  -- ---- the turns of the loop over a device's ports

  -- before the turn of port p, after a start: what is seen by the ports from p on is what is seen by all of them; no more is left than was; and
  -- each port that was examined has used up a step
  pub record Turned (d start set examined p : ℕ) : Type 0 where
    pub rest : (r : Seen) → FromPort d p (seen set examined) r → FromPort d 0 (seen start 0) r
    pub less : left set ≤ left start
    pub spent : examined + left set ≤ left start + p

  pub first-turn : (d start : ℕ) → Turned d start start 0 0
  first-turn d start = record { rest = λ r w. w; less = omega arith; spent = omega arith }

  pub next-turn : Few ports → (d start set examined p e : ℕ) (behind : Seen) → Turned d start set examined p → p < has role ports to d → e ≡ next role ports to d p
      → FromDevice e set behind → Turned d start behind.set (examined + 1 + behind.examined) (p + 1)
  next-turn few d start set examined p e behind t h q w =
      let more = no_more few e set behind w in
      record {
        rest = λ r v. t.rest r (goes_on few e d p (seen set examined) behind r w q h v);
        less = omega (arith, more, t.less);
        spent = omega (arith, more, t.spent);
      }

  pub last_turn : (d start set examined p : ℕ) (r : Seen) → r ≡ seen set examined → Turned d start set examined p → has role ports to d ≤ p → FromPort d 0 (seen start 0) r
  last_turn d start set examined p r q t h = rw q (t.rest (seen set examined) (last d p (seen set examined) h))
