-- What a call knows once its tests are passed, and what it answers where one of the first is not.
use mathlib.Core.Path.{◌≡◌, refl, sym, subst, ◌∙◌}
use mathlib.Core.Bool.{Bool, true, false, cond, ◌&&◌, false≢true}
use mathlib.Core.List.{List, ◌∷◌, ◌++◌}
use mathlib.Core.Logic.{inl, inr}
use Prim.Native.Nat.{ℕ, ◌<◌}
use native.Mathlib.Omega.{arith}
use lib.Dec.{eqb, ltb}
use lib.ListN.{length}
use borrow.Author.Tests.{eq-eqb, eqb-true, lt-ltb, ltb-true}
use Rattle.answers.specs.Ordered.{Condition, ask, Ordered}
use Rattle.answers.proofs.Outcomes.{Holds, holds, passed, stopped}
use Rattle.device.specs.Reaction.{is_used}
use Rattle.plan.specs.declared.Plan.{Plan}
use Rattle.plan.proofs.BothWays.{held-devices}
use Rattle.state.specs.State.{State, words}
use Rattle.state.specs.Network.{events}
use Rattle.calls.specs.Calls.{device_asks, own_asks, profile_asks, send_asks, owns, call_asks, called, called_in}

-- a device that a state has room for
pub has_room : (more : List Condition) {d n : ℕ} → d < 32 → Ordered (ask 4 (d < 32) ∷ more) n → Ordered more n
has_room more l (inl p) = absurd (p.0 l)
has_room more l (inr p) = p.1

module _ (plan : Plan) (d : ℕ) (s : State) where
  -- what every call asks
  abbrev first : List Condition
  first = device_asks plan d s

  pub asked : {n : ℕ} → Ordered (device_asks plan d s) n → n ≡ 0 → Holds (device_asks plan d s)
  asked o z = holds first refl o z

  pub ready : Holds (device_asks plan d s) → (length s ≡ words) × (d < 32)
  ready (held, (sound, (there, u))) = (sound.size, omega (arith, (held-devices plan held).1))

  -- a call may ask more
  module _ (more : List Condition) where
    pub call-passed : {n : ℕ} → Holds (device_asks plan d s) → Ordered more n → Ordered (device_asks plan d s ++ more) n
    call-passed {n} h o = passed first more n h o

  -- a request or an acknowledge: by the mask that its kind goes by, and then by the state of its device
  module _ (kind k : ℕ) where
    module _ (h : Holds (device_asks plan d s)) {mask n : ℕ} (e : mask ≡ owns plan kind d) (o : Ordered (own_asks mask k) n) where
      abbrev own : List Condition
      own = own_asks (owns plan kind d) k

      abbrev used : List Condition
      used = profile_asks (events plan) kind k

      abbrev send : List Condition
      send = send_asks plan.core.permissions kind d k s

      by_mask : Ordered own n
      by_mask = subst (λ m. Ordered (own_asks m k) n) e o

      pub call-foreign : (n ≡ 0 → ⊥) → Ordered (call_asks plan kind d k s) n
      call-foreign z = call-passed (own ++ (used ++ send)) h (stopped own (used ++ send) by_mask z)

      -- it is the mask's: by the profile of the identifier
      module _ (z : n ≡ 0) where
        pub call-unused : is_used (events plan) kind k ≡ false → Ordered (call_asks plan kind d k s) 13
        call-unused u = call-passed (own ++ (used ++ send)) h (passed own (used ++ send) 13 (holds own refl by_mask z) (inl (λ v. false≢true (sym u ∙ v), refl)))

        pub call-answered : is_used (events plan) kind k ≡ true → {m : ℕ} → Ordered (ask 4 (d < 32) ∷ send) m → Ordered (call_asks plan kind d k s) m
        call-answered u {m} a = call-passed (own ++ (used ++ send)) h (passed own (used ++ send) m (holds own refl by_mask z) (inr (u, has_room send (ready h).1 a)))

    pub call-ready : {n : ℕ} → Ordered (call_asks plan kind d k s) n → n ≡ 0 → (length s ≡ words) × (d < 32) × (k < 32)
    call-ready o z = known (holds (call_asks plan kind d k s) refl o z)
      where
        known : Holds (call_asks plan kind d k s) → (length s ≡ words) × (d < 32) × (k < 32)
        known (held, (sound, (there, (small, rest)))) = let r = ready (held, (sound, (there, tt))) in (r.0, r.1, small)

-- ---- a call that is taken in any area

module _ (plan : Plan) (kind d k : ℕ) (s : State) where
  pub called-in : length s ≡ words → d < 32 → k < 32 → kind < 2 → called_in plan kind d k s ≡ called plan kind d k s
  unfolding called_in
  called-in long h l g = rw (eq-eqb (length s) words long, lt-ltb d 32 h, lt-ltb k 32 l, lt-ltb kind 2 g)

  pub called-not : (length s ≡ words → d < 32 → k < 32 → kind < 2 → ⊥) → called_in plan kind d k s ≡ s
  unfolding called_in
  called-not n = by-test (eqb (length s) words) (ltb d 32) (ltb k 32) (ltb kind 2) refl refl refl refl
    where
      by-test : (a b c e : Bool) → eqb (length s) words ≡ a → ltb d 32 ≡ b → ltb k 32 ≡ c → ltb kind 2 ≡ e
          → cond (a && b && c && e) (called plan kind d k s) s ≡ s
      by-test false b c e o p q r = refl
      by-test true false c e o p q r = refl
      by-test true true false e o p q r = refl
      by-test true true true false o p q r = refl
      by-test true true true true o p q r = absurd (n (eqb-true (length s) words o) (ltb-true d 32 p) (ltb-true k 32 q) (ltb-true kind 2 r))
