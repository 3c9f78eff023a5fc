-- What waits at a port: queueing a code keeps a sound state sound, and changes no word but those of ports.
use mathlib.Core.Path.{◌≡◌, refl, sym, ap, ◌∙◌}
use mathlib.Core.Bool.{Bool, true, false, cond, false≢true}
use mathlib.Core.List.{List}
use mathlib.Core.Logic.{◌≢◌, dite}
use Prim.Native.Nat.{ℕ, zero, suc, ◌+◌, ◌-◌, ◌*◌, ◌/◌, ◌^◌, ◌≤◌, ◌<◌, min}
use native.Mathlib.Decide.{dec_lt, ℕ_discrete}
use native.Mathlib.Omega.{arith}
use lib.Bits.{bit_and, and_le_l, and_zero_l}
use lib.Dec.{eqb}
use lib.ListN.{get_or}
use borrow.Author.Tests.{eqb-true, ne_eqb}
use Rattle.lists.proofs.Loops.{keeps, untouched}
use Rattle.lists.proofs.Tests.{and_left, and_right}
use Rattle.bits.specs.Set.{bit, join, leave}
use Rattle.bits.proofs.Sets.{bit-zero, bit-and, same-members, join-other, join-lt, leave-is, leave_none, leave_same, leave-other, leave-lt}
use Rattle.device.specs.Permissions.{may_send}
use Rattle.plan.specs.Reading.{Held}
use Rattle.plan.specs.declared.Plan.{Plan}
use Rattle.state.specs.State.{State, word, put, ports_at, ports_end, port_words, port_at, waiting, running}
use Rattle.state.specs.Network.{devices, exists, permissions}
use Rattle.state.specs.Sound.{Kept, Sound}
use Rattle.state.specs.Queue.{sends_at, queue_at, queue_but, queue_all_at, queue_all}
use Rattle.state.proofs.Words.{word-other, put-comm}
use Rattle.state.proofs.Plans.{few}
use Rattle.state.proofs.Keeping.{both-kinds, sets-step}

-- ---- two sets with no common member

pub leave-zero : (k : ℕ) → leave 0 k ≡ 0
leave-zero k = dite (dec_lt k 32) (λ h. rw (leave-is 0 k h, and_zero_l)) (λ n. leave_none 0 k (omega arith))

-- two sets that have none, and differ from what they were only at a place that is not in both, have none
still-apart : (k a b c e : ℕ) → bit_and a b ≡ 0 → c < 2 ^ 32 → ((j : ℕ) → j < 32 → j ≢ k → bit c j ≡ bit a j) → ((j : ℕ) → j < 32 → j ≢ k → bit e j ≡ bit b j)
    → min (bit c k) (bit e k) ≡ 0 → bit_and c e ≡ 0
still-apart k a b c e z small left right now =
    same-members 32 (bit_and c e) 0 (omega (arith, and_le_l c e)) (omega arith)
    (λ j h. bit-and j c e ∙ at j h ∙ sym (bit-zero j))
  where
    at : (j : ℕ) → j < 32 → min (bit c j) (bit e j) ≡ 0
    at j h =
        elim (ℕ_discrete j k) [
          | yes q ↦ rw q now
          | no ne ↦ rw (left j h ne, right j h ne) (sym (bit-and j a b) ∙ ap (λ y. bit y j) z ∙ bit-zero j)
        ]

-- code k of a kind is queued: what becomes of the set of kind j
abbrev entered : ℕ → ℕ → ℕ → ℕ → ℕ
entered kind k j set = cond (eqb j kind) (join set k) (leave set k)

entered-lt : (kind k j set : ℕ) → set < 2 ^ 32 → entered kind k j set < 2 ^ 32
entered-lt kind k j set h = by-test (eqb j kind)
  where
    by-test : (t : Bool) → cond t (join set k) (leave set k) < 2 ^ 32
    by-test true = join-lt set k h
    by-test false = leave-lt set k h

module _ (k : ℕ) (l : k < 32) (a b : ℕ) (z : bit_and a b ≡ 0) (small : a < 2 ^ 32) where
  entered-apart : (kind : ℕ) → kind < 2 → bit_and (entered kind k 0 a) (entered kind k 1 b) ≡ 0
  entered-apart =
      both-kinds (λ kind. bit_and (entered kind k 0 a) (entered kind k 1 b) ≡ 0)
      (still-apart k a b (join a k) (leave b k) z (join-lt a k small) (λ j h. join-other a k j) (leave-other b k) (omega (arith, leave_same b k l)))
      (still-apart k a b (leave a k) (join b k) z (leave-lt a k small) (leave-other a k) (λ j h. join-other b k j) (omega (arith, leave_same a k l)))

  pub left-apart : bit_and (leave a k) (leave b k) ≡ 0
  left-apart = still-apart k a b (leave a k) (leave b k) z (leave-lt a k small) (leave-other a k) (leave-other b k) (omega (arith, leave_same a k l))

-- the two sets in their order
queued-sets : (s : State) (q k kind : ℕ) → kind < 2
    → put (put s (port_at q kind) (join (waiting s kind q) k)) (port_at q (1 - kind)) (leave (waiting s (1 - kind) q) k)
    ≡ put (put s (port_at q 0) (entered kind k 0 (waiting s 0 q))) (port_at q 1) (entered kind k 1 (waiting s 1 q))
queued-sets s q k zero h = refl
queued-sets s q k (suc zero) h = put-comm s (port_at q 1) (port_at q 0) _ _ (omega arith)
queued-sets s q k (suc (suc n)) h = absurd (omega arith)

-- a port that is not absent exists
pub not-absent : (t : Bool) → (t ≡ false → ⊥) → t ≡ true
not-absent true n = refl
not-absent false n = absurd (n refl)

module _ (plan : Plan) (held : Held plan) {s : State} (x : Sound plan s) (q : ℕ) (small : q < 256) where
  -- ---- a code is queued

  queue-step : (kind k : ℕ) → kind < 2 → k < 32 → Sound plan (queue_at (permissions plan q) kind k q s)
  unfolding queue_at
  queue-step kind k h l = by-test (sends_at (permissions plan q) kind q s) refl
    where
      sets : ℕ → ℕ
      sets j = entered kind k j (waiting s j q)

      -- where the port runs and may send
      taken : running s q ≡ 1 → may_send kind (permissions plan q) ≡ true → Sound plan (put (put s (port_at q 0) (sets 0)) (port_at q 1) (sets 1))
      taken r m =
          let there : exists plan q ≡ true = not-absent (exists plan q) (λ e. omega (arith, x.no-port q 3 small e (omega arith))) in
          let old : Kept plan s q = x.ports q small there in
          sets-step plan held x q small there sets
          (record {
            fits = λ j g. entered-lt kind k j (waiting s j q) (x.fits (port_at q j));
            apart = entered-apart k l (waiting s 0 q) (waiting s 1 q) old.apart (x.fits (port_at q 0)) kind h;
            stopped = λ z. absurd (omega arith);
            mute = λ j g z. elim (ℕ_discrete j kind) [
              | yes e ↦ absurd (false≢true (sym z ∙ ap (λ y. may_send y (permissions plan q)) e ∙ m))
              | no ne ↦ rw (ne_eqb j kind ne) (ap (λ y. leave y k) (old.mute j g z) ∙ leave-zero k)
            ];
          })

      by-test : (t : Bool) → sends_at (permissions plan q) kind q s ≡ t → Sound plan (queue_at (permissions plan q) kind k q s)
      by-test false e = rw e x
      by-test true e =
          let runs = eqb-true (running s q) 1 (and_left (eqb (running s q) 1) (may_send kind (permissions plan q)) e) in
          rw (e, queued-sets s q k kind h) (taken runs (and_right (eqb (running s q) 1) (may_send kind (permissions plan q)) e))

-- ---- at all ports

module _ (plan : Plan) (held : Held plan) where
  pub queue-all-sound : (kind k d but : ℕ) → kind < 2 → k < 32 → d < devices plan → (s : State) → Sound plan s → Sound plan (queue_all plan kind k d but s)
  unfolding queue_all_at
  queue-all-sound kind k d but g l h s x = keeps (queue_but plan.core.permissions kind k d but) (Sound plan) 8 turn s x
    where
      turn : (p : ℕ) (t : State) → p < 8 → Sound plan t → Sound plan (queue_but plan.core.permissions kind k d but p t)
      turn p t m y = by-test (eqb (8 * d + p) but)
        where
          by-test : (b : Bool) → Sound plan (cond b t (queue_at (permissions plan (8 * d + p)) kind k (8 * d + p) t))
          by-test true = y
          by-test false = let n = few plan held in queue-step plan held y (8 * d + p) (omega arith) kind k g l

-- ---- what queueing leaves: every word that is no port's, and those of the ports of other devices

-- word i is none of the waiting sets of device d's ports
abbrev Apart : ℕ → ℕ → Type 0
Apart d i = (p j : ℕ) → p < 8 → j < 2 → i ≢ port_at (8 * d + p) j

module _ (kind k i : ℕ) (g : kind < 2) where
  queue-left : (permissions q : ℕ) → ((j : ℕ) → j < 2 → i ≢ port_at q j) → (s : State) → word (queue_at permissions kind k q s) i ≡ word s i
  unfolding queue_at
  queue-left permissions q out s = by-test (sends_at permissions kind q s)
    where
      by-test : (t : Bool)
          → word (cond t (put (put s (port_at q kind) (join (waiting s kind q) k)) (port_at q (1 - kind)) (leave (waiting s (1 - kind) q) k)) s) i ≡ word s i
      by-test true = word-other _ (port_at q (1 - kind)) _ i (out (1 - kind) (omega arith)) ∙ word-other s (port_at q kind) _ i (out kind g)
      by-test false = refl

  queue-all-apart : (permissions : List ℕ) (d but : ℕ) → Apart d i → (s : State) → word (queue_all_at permissions kind k d but s) i ≡ word s i
  unfolding queue_all_at
  queue-all-apart permissions d but out s = untouched (queue_but permissions kind k d but) (λ t. word t i) 8 (λ p t l. by-test p t l (eqb (8 * d + p) but)) s
    where
      by-test : (p : ℕ) (t : State) → p < 8 → (b : Bool) → word (cond b t (queue_at (get_or permissions (8 * d + p) 0) kind k (8 * d + p) t)) i ≡ word t i
      by-test p t l true = refl
      by-test p t l false = queue-left (get_or permissions (8 * d + p) 0) (8 * d + p) (λ j m. out p j l m) t

  pub queue-all-left : (ports_at ≤ i → i < ports_end → ⊥) → (permissions : List ℕ) (d but : ℕ) → d < 32 → (s : State) → word (queue_all_at permissions kind k d but s) i ≡ word s i
  queue-all-left out permissions d but h = queue-all-apart permissions d but (λ p j l m e. out (omega arith) (omega arith))

pub queue-all-else : (kind k q : ℕ) → kind < 2 → (permissions : List ℕ) (d but : ℕ) → q / 8 ≢ d → (i : ℕ) → i < port_words → (s : State)
    → word (queue_all_at permissions kind k d but s) (port_at q i) ≡ word s (port_at q i)
queue-all-else kind k q g permissions d but ne i h = queue-all-apart kind k (port_at q i) g permissions d but (λ p j l m. omega arith)
