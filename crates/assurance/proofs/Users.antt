-- Demand 3 in the words of somebody who calls reach, then request, and then plays the rounds of the window: who holds the identifier then,
-- how often a port sends it, and that it is on no link any more; and what settling finds of it.
use mathlib.Core.Path.{◌≡◌, refl, sym, ap, ap₂, ◌∙◌}
use mathlib.Core.List.{[]}
use mathlib.Core.Logic.{dite}
use Prim.Native.Nat.{ℕ, zero, suc, ◌+◌, ◌≤◌, ◌<◌}
use native.Mathlib.Decide.{dec_lt, ℕ_discrete}
use native.Mathlib.Nat.{le_refl}
use native.Mathlib.Omega.{arith}
use Rattle.answers.specs.Ordered.{Ordered}
use Rattle.answers.proofs.Outcomes.{holds, passed}
use Rattle.answers.proofs.Unique.{ordered-once}
use Rattle.bits.specs.Set.{bit, size_below, size}
use Rattle.bits.proofs.Sets.{bit-two, bit-zero}
use Rattle.lists.specs.Loop.{up_to}
use Rattle.plan.specs.Reading.{Held}
use Rattle.plan.specs.declared.Plan.{Plan}
use Rattle.state.specs.State.{State, register, waiting}
use Rattle.state.specs.Network.{devices}
use Rattle.state.proofs.Plans.{few}
use Rattle.calls.specs.Calls.{call_asks, called}
use Rattle.bench.specs.Round.{round}
use Rattle.bench.specs.Settling.{rounds, Quiet, Least}
use Rattle.bench.specs.Trials.{holders}
use Rattle.reach.specs.Reach.{Reached, reach_asks, Reaches}
use Rattle.reach.proofs.Distances.{walk-device, reached-counted}
use Rattle.assurance.specs.Demand3.{Calls, none, Course, Given, Follows, SendsK, window}
use Rattle.assurance.specs.Cycle.{AtRest}
use Rattle.assurance.proofs.Meanwhile.{course-sound}
use Rattle.assurance.proofs.Demand.{Asked, there, place, first, later, asked, out, follows}
use Rattle.assurance.proofs.Quiet.{none-sends, idle-lasts}
use Rattle.assurance.proofs.Cycle.{longer-sound, longer-idle}

-- ---- how many hold an identifier is how many are in the set of those that hold it

holders-size : (n k set : ℕ) (s : State) → ((e : ℕ) → e < n → bit (register s e) k ≡ bit set e) → holders n k s ≡ size_below n set
unfolding holders size_below
holders-size zero k set s h = refl
holders-size (suc n) k set s h = ap₂ (λ a b. a + b) (holders-size n k set s (λ e l. h e (omega arith))) (h n (omega arith))

-- places that are not in the set do not count
size-within : (n m set : ℕ) → n ≤ m → ((e : ℕ) → n ≤ e → e < m → bit set e ≡ 0) → size_below m set ≡ size_below n set
unfolding size_below
size-within n zero set l h = let none : 0 ≡ n = omega arith in ap (λ i. size_below i set) none
size-within n (suc m) set l h =
    elim (ℕ_discrete n (suc m)) [
      | yes e ↦ ap (λ i. size_below i set) (sym e)
      | no ne ↦ omega (arith, size-within n m set (omega arith) (λ e a b. h e a (omega arith)), h m (omega arith) (omega arith))
    ]

module _ (plan : Plan) (k source D : ℕ) (s : State) (at : ℕ → State) (given : Given plan k source D s at) where
  abbrev end : State
  end = at (window D)

  said : Follows plan k source D s at
  said = follows given

  inside : source < devices plan
  inside = there (asked given)

  small : k < 32
  small = place (asked given)

  -- ---- the devices that hold k at the end are those that reach answered with before the request

  module _ (set : ℕ) (r : Reached plan s source k set) where
    pub who-is-reached-holds : (e : ℕ) → e < 32 → bit set e ≡ 1 → bit (register end e) k ≡ 1
    who-is-reached-holds e h b =
        let far = reached-counted plan given.held s k source D set inside given.farthest r e h b in
        said.holds far.0 e (window D) far.2.there (omega (arith, far.1)) (le_refl _)

    pub who-holds-is-reached : (e : ℕ) → e < devices plan → bit (register end e) k ≡ 1 → bit set e ≡ 1
    who-holds-is-reached e h b = let way = said.no_other e (window D) h (le_refl _) b in (r.all way.0 e way.1).1

    same : (e : ℕ) → e < devices plan → bit (register end e) k ≡ bit set e
    same e h =
        elim (ℕ_discrete (bit set e) 1) [
          | yes b ↦ who-is-reached-holds e (omega (arith, few plan given.held)) b ∙ sym b
          | no n ↦ elim (ℕ_discrete (bit (register end e) k) 1) [
            | yes b ↦ absurd (n (who-holds-is-reached e h b))
            | no m ↦ omega (arith, bit-two set e, bit-two (register end e) k)
          ]
        ]

    -- the set has devices of the plan only
    absent : (e : ℕ) → devices plan ≤ e → e < 32 → bit set e ≡ 0
    absent e l h =
        elim (ℕ_discrete (bit set e) 1) [
          | yes b ↦ absurd (omega (arith, walk-device plan given.held s 0 k source inside (r.only e h b).1))
          | no n ↦ omega (arith, bit-two set e)
        ]

    as_many : holders (devices plan) k end ≡ size set
    unfolding size
    as_many = holders-size (devices plan) k set end same ∙ sym (size-within (devices plan) 32 set (few plan given.held) absent)

  -- whatever reach answers before the request, it is not refused, and at the end as many devices hold k as its value says
  pub as-many-as-reach-says : (number value set examined : ℕ) → Reaches plan s source k number value set examined
      → (number ≡ 0) × (holders (devices plan) k end ≡ value)
  as-many-as-reach-says number value set examined x =
      let asked = holds (call_asks plan 0 source k s) refl given.taken refl in
      let done : number ≡ 0 =
      ordered-once (reach_asks plan s source k) number 0 x.answers
      (passed (reach_asks plan s source k) [] 0 (asked.0, (asked.1.0, (asked.1.1.0, (asked.1.1.1.0, (asked.1.1.1.1.0, tt))))) refl) in
      (done, as_many set (x.made done).0 ∙ sym (x.made done).1)

  -- ---- what ports send

  -- each sends k in at most one round
  pub one-round : (q t u : ℕ) → t < window D → u < window D → SendsK plan k (at t) q → SendsK plan k (at u) q → t ≡ u
  one-round q t u h l x y =
      dite (dec_lt t u) (λ b. absurd (said.once q t u b l x y))
      (λ b. dite (dec_lt u t) (λ c. absurd (said.once q u t c h y x)) (λ c. omega arith))

  -- and none at all in the round after the last: k has left every link
  pub off-the-links : (q : ℕ) → SendsK plan k end q → ⊥
  off-the-links = none-sends plan given.held k small ((out given).sound (window D) (le_refl _)) said.gone

  -- nor in any round after it, as long as nobody calls for k: it has left them for good
  pub for-good : (last : ℕ) → ((t : ℕ) → window D ≤ t → t < last → Calls plan k (round plan (at t)).next (at (suc t)))
      → (q t : ℕ) → window D ≤ t → t ≤ last → SendsK plan k (at t) q → ⊥
  for-good last on q t since to =
      none-sends plan given.held k small (longer-sound given on t to) (longer-idle given on t since to) q

-- ---- a network that carries nothing else: after as many rounds as settling answers, and after more, k waits nowhere, as `Sooner` asks

module _ (plan : Plan) (k from n : ℕ) (s : State) (held : Held plan) (at_rest : AtRest plan k s) (taken : Ordered (call_asks plan 0 from k s) 0)
    (settles : Least plan (called plan 0 from k s) n) where
  sent : Asked plan k from s
  sent = record { held = held; at_rest = at_rest; taken = taken }

  abbrev alone : ℕ → State
  alone t = rounds plan t (called plan 0 from k s)

  plain : (until : ℕ) → Course plan k until (called plan 0 from k s) alone
  unfolding up_to
  plain until = record { begins = none; goes_on = λ t h. none }

  pub settling-quiets : (until : ℕ) → n ≤ until
      → Course plan k until (called plan 0 from k s) alone × ((kind q : ℕ) → kind < 2 → q < 256 → bit (waiting (alone until) kind q) k ≡ 0)
  unfolding Quiet
  settling-quiets until h = (
    plain until,
    idle-lasts plan held k (place sent) alone until (course-sound plan held k (place sent) until (called plan 0 from k s) alone (first sent) (plain until))
        (later sent (plain until)) n (λ kind q g b. ap (λ v. bit v k) (settles.quiet.0 q kind b g) ∙ bit-zero k) until h (le_refl _),
  )
