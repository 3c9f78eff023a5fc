-- The theorem: a run that keeps the laws floods the network.
use mathlib.Core.Path.{◌≡◌, sym, subst}
use mathlib.Core.Logic.{◌⊎◌, inl, inr}
use Prim.Native.Nat.{ℕ, zero, suc, ◌+◌, ◌*◌, ◌≤◌, ◌<◌, zero-le}
use native.Mathlib.Nat.{mul-le-mul_left, le_refl}
use native.Mathlib.Decide.{le_ind}
use native.Mathlib.Omega.{arith}
use Rattle.flood.specs.Flood.{Net, Sight, Relays, Crossed, here, cross, Within, Run, Flooded}

module _ (N : Net) (W last : ℕ) (pos : 0 < W) (at : ℕ → Sight N) (sends : ℕ → N.Port → Type 0) (r : Run N W last at sends) where
  persist : {d : N.Device} (t u : ℕ) → t ≤ u → u ≤ last → (at t).holds d → (at u).holds d
  persist {d} t u h =
      le_ind (λ u. u ≤ last → (at t).holds d → (at u).holds d) (λ _ x. x)
      (λ m _ ih le x. (r.step m le).keeps (ih (omega arith) x)) u h

  -- the code waits only where its device holds it and hands it on
  owned : (t : ℕ) → t ≤ last → {q : N.Port} → (at t).waits q → (at t).holds (N.owner q) × Relays N (N.owner q)
  owned zero h {q} w =
      let e = r.start.waits_there w in
      (subst (at 0).holds (sym e) r.start.source-holds, inl e)
  owned (suc t) h {q} w = elim ((r.step t h).waiting w) [
    | inl x ↦ let y = owned t (omega arith) x.0 in ((r.step t h).keeps y.0, y.1)
    | inr x ↦ (x.1, inr x.2)
  ]

  -- behind each port of a device that has the code and hands it on: it waits at the port, or has got there
  covered : (t : ℕ) → t ≤ last → {q : N.Port} {e : N.Device} → (at t).holds (N.owner q) → Relays N (N.owner q) → N.leads q e
      → (at t).waits q ⊎ (at t).holds e
  covered zero h x y l = r.start.waits-all (r.start.alone x) l
  covered (suc t) h {q} {e} x y l = elim before [
    | inr z ↦ z
    | inl z ↦ elim (covered t (omega arith) z y l) [
      | inr v ↦ inr ((r.step t h).keeps v)
      | inl v ↦ elim ((r.step t h).served v) [ inl s ↦ inr ((r.step t h).arrives s l) | inr s ↦ inl s.0 ]
    ]
  ]
    where
      came : (at (suc t)).waits q ⊎ ((p : N.Port) × sends t p × (N.owner p ≡ e)) → (at (suc t)).waits q ⊎ (at (suc t)).holds e
      came (inl w) = inl w
      came (inr p) = inr (subst (at (suc t)).holds p.2 ((r.step t h).keeps (owned t (omega arith) ((r.step t h).waited p.1)).0))

      -- the device held the code before this round, or got it in this round
      before : (at t).holds (N.owner q) ⊎ ((at (suc t)).waits q ⊎ (at (suc t)).holds e)
      before = elim y [
        | inl s ↦ inl (persist 0 t zero-le (omega arith) (subst (at 0).holds (sym s) r.start.source-holds))
        | inr p ↦ elim ((r.step t h).relayed x p l) [ inl z ↦ inl z | inr z ↦ inr (came z) ]
      ]

  -- a waiting code is across within as many rounds as its rank allows
  across : (m s t : ℕ) {q : N.Port} {e : N.Device} → (at s).rank q < m → s + m ≤ t → t ≤ last → N.leads q e
      → (at s).waits q → (at t).holds e
  across zero s t lt le k l w = absurd (omega arith)
  across (suc m) s t lt le k l w = elim ((r.step s (omega arith)).served w) [
    | inl x ↦ persist (suc s) t (omega arith) k ((r.step s (omega arith)).arrives x l)
    | inr x ↦ across m (suc s) t (omega arith) (omega arith) k l x.0
  ]

  arrive : {n : ℕ} {d : N.Device} → Crossed N n d → (t : ℕ) → W * n ≤ t → t ≤ last → (at t).holds d
  arrive here t h k = persist 0 t zero-le k r.start.source-holds
  arrive (cross {n = n} q w y l) t h k =
      elim (covered (W * n) (omega arith) (arrive w (W * n) (le_refl _) (omega arith)) y l) [
        | inl x ↦ across W (W * n) t ((r.step (W * n) (omega arith)).bounded x) (omega arith) k l x
        | inr x ↦ persist (W * n) t (omega arith) k x
      ]

  -- where it waits nowhere, all that it leads to have it
  complete : (t : ℕ) → t ≤ last → ((q : N.Port) → (at t).waits q → ⊥) → {n : ℕ} {d : N.Device} → Crossed N n d → (at t).holds d
  complete t h none here = persist 0 t zero-le h r.start.source-holds
  complete t h none (cross q w y l) = elim (covered t h (complete t h none w) y l) [ inl x ↦ absurd (none q x) | inr x ↦ x ]

  holders : (t : ℕ) → t ≤ last → {d : N.Device} → (at t).holds d → (n : ℕ) × (n ≤ t) × Crossed N n d
  holders zero h x = (0, zero-le, subst (Crossed N 0) (sym (r.start.alone x)) here)
  holders (suc t) h x = elim ((r.step t h).begins x) [
    | inl y ↦ let p = holders t (omega arith) y in (p.0, omega (arith, p.1), p.2)
    | inr y ↦ let o = owned t (omega arith) ((r.step t h).waited y.1) in
        let p = holders t (omega arith) o.0 in
        (suc p.0, omega (arith, p.1), cross y.0 p.2 o.1 y.2)
  ]

  -- a port that has sent the code never has it waiting again
  spent : {q : N.Port} (t u : ℕ) → t < u → u ≤ last → sends t q → (at u).waits q → ⊥
  spent {q} t u h k s =
      le_ind (λ u. u ≤ last → (at u).waits q → ⊥)
      (λ le w. elim ((r.step t le).waiting w) [ inl x ↦ x.1 s | inr x ↦ x.0 (owner-had le) ])
      (λ m lt ih le w. elim ((r.step m le).waiting w) [
        | inl x ↦ ih (omega arith) x.0
        | inr x ↦ x.0 (persist t m (omega arith) (omega arith) (owner-had (omega arith)))
      ])
      u h k
    where
      owner-had : t < last → (at t).holds (N.owner q)
      owner-had lt = (owned t (omega arith) ((r.step t lt).waited s)).0

  -- from a moment on no device begins to hold the code: what waits later has waited since, and was passed over each round
  since : (s t : ℕ) {q : N.Port} → s ≤ t → t ≤ last
      → ((u : ℕ) → s ≤ u → u < last → (d : N.Device) → (at (suc u)).holds d → (at u).holds d)
      → (at t).waits q → (at s).waits q × ((at t).rank q + t ≤ (at s).rank q + s)
  since s t {q} h k calm =
      le_ind (λ t. t ≤ last → (at t).waits q → (at s).waits q × ((at t).rank q + t ≤ (at s).rank q + s))
      (λ _ w. (w, le_refl _))
      (λ m lt ih le w. elim ((r.step m le).waiting w) [
        | inl x ↦ let y = ih (omega arith) x.0 in
            elim ((r.step m le).served x.0) [ inl z ↦ absurd (x.1 z) | inr z ↦ (y.0, omega arith) ]
        | inr x ↦ absurd (x.0 (calm m lt le _ x.1))
      ])
      t h k

  module _ (D : ℕ) (near : Within N D) where
    calm : (u : ℕ) → W * D ≤ u → u < last → (d : N.Device) → (at (suc u)).holds d → (at u).holds d
    calm u h k d x =
        let p = near.shorter (holders (suc u) k x).2 in
        let le = mul-le-mul_left W p.1 in
        arrive p.2 u (omega arith) (omega arith)

    empty : (t : ℕ) → W * (D + 1) ≤ t → t ≤ last → {q : N.Port} → (at t).waits q → ⊥
    empty t h k w =
        let p = since (W * D) t (omega arith) k calm w in
        let b = (r.step (W * D) (omega arith)).bounded p.0 in
        omega arith

    pub flooded : Flooded N W last D at sends
    flooded = record {
      reached = arrive;
      only = holders;
      complete = complete;
      once = λ t u h k s v. spent t u h (omega arith) s ((r.step u k).waited v);
      done = empty;
    }
