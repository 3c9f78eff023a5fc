-- The laws of visits, wherever ports lead: the steps of each, what every visit keeps, and how deep is enough.
use mathlib.Core.Path.{◌≡◌, refl, sym, ap, ◌∙◌}
use mathlib.Core.Bool.{Bool, true, false, false≢true}
use mathlib.Core.List.{List}
use mathlib.Core.Logic.{◌⊎◌, inl, inr, dite}
use Prim.Native.Nat.{ℕ, zero, suc, ◌+◌, ◌-◌, ◌*◌, ◌≤◌, ◌<◌}
use native.Mathlib.Decide.{dec_lt, ℕ_discrete}
use native.Mathlib.Omega.{arith}
use lib.Dec.{eqb}
use lib.ListN.{get_or}
use borrow.Author.Tests.{lt-ltb, le-ltb, eqb-false}
use Rattle.lists.proofs.Facts.{facts}
use Rattle.bits.specs.Set.{bit, join, size_below, size}
use Rattle.bits.proofs.Sets.{bit-two, join-same, join-other, size-join, size-le}
use Rattle.reach.specs.Visits.{is_new, seen, onward, device_visit, port_visit}
use Rattle.reach.specs.declared.visits.Seen.{Seen}
use Rattle.reach.specs.Inner.Depth.{left, Few}

-- ---- how many devices are left

-- a device that joins is one fewer
pub entered : (d set : ℕ) → d < 32 → bit set d ≡ 0 → left (join set d) + 10 ≤ left set
unfolding size
entered d set h z = omega (arith, size-join 32 set d z h h, size-le 32 (join set d))

size-more : (n x y : ℕ) → ((k : ℕ) → bit x k ≡ 1 → bit y k ≡ 1) → size_below n x ≤ size_below n y
unfolding size_below
size-more zero x y h = omega arith
size-more (suc n) x y h =
    elim (ℕ_discrete (bit x n) 1) [
      | yes e ↦ omega (arith, size-more n x y h, h n e)
      | no e ↦ omega (arith, size-more n x y h, bit-two x n)
    ]

-- with more devices in the set, no more are left
pub fewer : (x y : ℕ) → ((k : ℕ) → bit x k ≡ 1 → bit y k ≡ 1) → left y ≤ left x
unfolding size
fewer x y h = omega (arith, size-more 32 x y h)

-- a member after device d joined
pub joined : (set d e : ℕ) → bit (join set d) e ≡ 1 → (bit set e ≡ 1) ⊎ (e ≡ d)
joined set d e b = elim (ℕ_discrete e d) [ yes q ↦ inr q | no q ↦ inl (sym (join-other set d e q) ∙ b) ]

-- what is said of a device that is new, and of one that is not
pub new-says : (set d : ℕ) → is_new set d ≡ true → (d < 32) × (bit set d ≡ 0)
new-says set d n = simp facts at n

not_new : (set d : ℕ) → is_new set d ≡ false → d < 32 → bit set d ≡ 1
not_new set d n h = omega (arith, bit-two set d, eqb-false (bit set d) 0 (rw (lt-ltb d 32 h) at n))

-- to: the device ahead of each port, or 32
module _ (role ports : List ℕ) (to : ℕ → ℕ) where
  -- short names for what visits are made of
  abbrev pub passes : ℕ → Bool
  passes d = eqb (get_or role d 0) 1

  abbrev pub has : ℕ → ℕ
  has d = get_or ports d 0

  abbrev pub next : ℕ → ℕ → ℕ
  next d p = to (8 * d + p)

  abbrev pub device : ℕ → ℕ → ℕ → Seen
  device = device_visit role ports to

  abbrev pub port : ℕ → ℕ → ℕ → Seen → Seen
  port = port_visit role ports to

  -- ---- one step of each visit

  -- without depth nothing is seen
  no-depth : (d p set : ℕ) (s : Seen) → (device 0 d set ≡ seen set 0) × (port 0 d p s ≡ s)
  unfolding device_visit
  no-depth d p set s = (refl, refl)

  module _ (depth d : ℕ) where
    module _ (set : ℕ) where
      pub device-met : is_new set d ≡ false → device (suc depth) d set ≡ seen set 0
      unfolding device_visit
      device-met n = simp n

      module _ (n : is_new set d ≡ true) where
        pub device-ends : passes d ≡ false → device (suc depth) d set ≡ seen (join set d) 0
        unfolding device_visit
        device-ends e = simp (n, e)

        pub device-passes : passes d ≡ true → device (suc depth) d set ≡ port depth d 0 (seen (join set d) 0)
        unfolding device_visit
        device-passes e = simp (n, e)

    module _ (p : ℕ) (s : Seen) where
      pub port-ends : has d ≤ p → port (suc depth) d p s ≡ s
      unfolding device_visit
      port-ends h = simp (le-ltb p (has d) h)

      pub port-goes : p < has d → port (suc depth) d p s ≡ port depth d (p + 1) (onward s (device depth (next d p) s.set))
      unfolding device_visit
      port-goes h = simp (lt-ltb p (has d) h)

  -- the ways that the visit of a device goes
  pub data Visit (depth d set : ℕ) : Type 0 where
    met : (d < 32 → bit set d ≡ 1) → device (suc depth) d set ≡ seen set 0 → Visit depth d set
    ends : d < 32 → bit set d ≡ 0 → passes d ≡ false → device (suc depth) d set ≡ seen (join set d) 0 → Visit depth d set
    goes : d < 32 → bit set d ≡ 0 → passes d ≡ true → device (suc depth) d set ≡ port depth d 0 (seen (join set d) 0) → Visit depth d set

  pub visit : (depth d set : ℕ) → Visit depth d set
  visit depth d set = by-test (is_new set d) refl
    where
      by-role : is_new set d ≡ true → (b : Bool) → passes d ≡ b → Visit depth d set
      by-role n true e = let f = new-says set d n in goes f.0 f.1 e (device-passes depth d set n e)
      by-role n false e = let f = new-says set d n in ends f.0 f.1 e (device-ends depth d set n e)

      by-test : (b : Bool) → is_new set d ≡ b → Visit depth d set
      by-test true n = by-role n (passes d) refl
      by-test false n = met (not_new set d n) (device-met depth d set n)

  -- ---- what holds of the set and goes on where a device joins holds of what is found, whatever the depth

  module _ (Q P : ℕ → Type 0) (joins : (set d : ℕ) → d < 32 → P d → Q set → Q (join set d))
      (on : (d p : ℕ) → passes d ≡ true → P d → p < has d → next d p < 32 → P (next d p)) where
    mutual
      pub device-keeps : (depth d set : ℕ) → (d < 32 → P d) → Q set → Q (device depth d set).set
      device-keeps zero d set a q = rw (no-depth d 0 set (seen set 0)).0 q
      device-keeps (suc depth) d set a q =
          elim (visit depth d set) [
            | met b e ↦ rw e q
            | ends h z f e ↦ rw e (joins set d h (a h) q)
            | goes h z t e ↦ rw e (port-keeps depth d 0 (seen (join set d) 0) (λ p. on d p t (a h)) (joins set d h (a h) q))
          ]

      pub port-keeps : (depth d p : ℕ) (s : Seen) → ((i : ℕ) → i < has d → next d i < 32 → P (next d i)) → Q s.set → Q (port depth d p s).set
      port-keeps zero d p s a q = rw (no-depth d p 0 s).1 q
      port-keeps (suc depth) d p s a q =
          dite (dec_lt p (has d))
          (λ h. rw (port-goes depth d p s h) (port-keeps depth d (p + 1) _ a (device-keeps depth (next d p) s.set (a p h) q)))
          (λ h. rw (port-ends depth d p s (omega arith)) q)

  -- ---- so nothing leaves a set

  still : (e set d : ℕ) → d < 32 → Unit {0} → bit set e ≡ 1 → bit (join set d) e ≡ 1
  still e set d h _ b = elim (ℕ_discrete e d) [ yes q ↦ rw q (join-same set d h) | no q ↦ join-other set d e q ∙ b ]

  pub device-stays : (depth d set e : ℕ) → bit set e ≡ 1 → bit (device depth d set).set e ≡ 1
  device-stays depth d set e =
      device-keeps (λ x. bit x e ≡ 1) (λ _. Unit {0}) (still e) (λ _ _ _ _ _ _. tt) depth d set (λ _. tt)

  pub port-stays : (depth d p : ℕ) (s : Seen) (e : ℕ) → bit s.set e ≡ 1 → bit (port depth d p s).set e ≡ 1
  port-stays depth d p s e =
      port-keeps (λ x. bit x e ≡ 1) (λ _. Unit {0}) (still e) (λ _ _ _ _ _ _. tt) depth d p s (λ _ _ _. tt)

  -- ---- and each port that is examined uses up a step, where no device has more than eight ports

  module _ (few : Few ports) where
    mutual
      pub device-spends : (depth d set : ℕ) → let r = device depth d set in r.examined + left r.set ≤ left set
      device-spends zero d set = rw (no-depth d 0 set (seen set 0)).0 (omega arith)
      device-spends (suc depth) d set =
          elim (visit depth d set) [
            | met b e ↦ rw e (omega arith)
            | ends h z f e ↦ rw e (omega (arith, entered d set h z))
            | goes h z t e ↦ rw e (omega (arith, port-spends depth d 0 (seen (join set d) 0), entered d set h z, few d))
          ]

      port-spends : (depth d p : ℕ) (s : Seen) → let r = port depth d p s in
          r.examined + left r.set ≤ s.examined + left s.set + (has d - p)
      port-spends zero d p s = rw (no-depth d p 0 s).1 (omega arith)
      port-spends (suc depth) d p s =
          dite (dec_lt p (has d))
          (λ h.
          let behind = device depth (next d p) s.set in
          rw (port-goes depth d p s h) (omega (arith, port-spends depth d (p + 1) (onward s behind), device-spends depth (next d p) s.set)))
          (λ h. rw (port-ends depth d p s (omega arith)) (omega arith))

  -- ---- with depth enough, what a visit adds is done with: whatever it leads to is in the set as well

  -- the ports of device d from one on lead into the set
  abbrev pub Ports : ℕ → ℕ → ℕ → Type 0
  Ports from d r = (p : ℕ) → from ≤ p → p < has d → next d p < 32 → bit r (next d p) ≡ 1

  -- every device was in the set before, or is a node, or all its ports are done
  abbrev pub Done : ℕ → ℕ → Type 0
  Done set r = (e : ℕ) → bit r e ≡ 1 → (bit set e ≡ 1) ⊎ (passes e ≡ true → Ports 0 e r)

  -- a node that joins has nothing to do
  node_done : (d set : ℕ) → passes d ≡ false → Done set (join set d)
  node_done d set f e b = elim (joined set d e b) [ inl o ↦ inl o | inr q ↦ inr (λ t. absurd (false≢true (sym f ∙ ap passes (sym q) ∙ t))) ]

  -- a router that joins is done where its ports are
  router-done : (d set r : ℕ) → Ports 0 d r → Done (join set d) r → Done set r
  router-done d set r ports done e b =
      elim (done e b) [
        | inl j ↦ elim (joined set d e j) [ inl o ↦ inl o | inr q ↦ inr (λ _. rw q ports) ]
        | inr o ↦ inr o
      ]

  -- what is done stays done in a set with more
  still-done : (set more r : ℕ) → ((e : ℕ) → bit more e ≡ 1 → bit r e ≡ 1) → Done set more → Done more r → Done set r
  still-done set more r grows before after e b =
      elim (after e b) [
        | inl j ↦ elim (before e j) [ inl o ↦ inl o | inr o ↦ inr (λ t p g h n. grows (next e p) (o t p g h n)) ]
        | inr o ↦ inr o
      ]

  -- one port more
  more-ports : (p d r : ℕ) → (next d p < 32 → bit r (next d p) ≡ 1) → Ports (p + 1) d r → Ports p d r
  more-ports p d r first rest q g h n = elim (ℕ_discrete q p) [ yes w ↦ rw w (first (rw w at n)) | no w ↦ rest q (omega arith) h n ]

  -- no device has more than eight ports, so that a step for each is deep enough
  module _ (few : Few ports) where
    mutual
      device-done : (depth d set : ℕ) → left set < depth → let r = (device depth d set).set in Done set r × (d < 32 → bit r d ≡ 1)
      device-done zero d set l = absurd (omega arith)
      device-done (suc depth) d set l =
          elim (visit depth d set) [
            | met b e ↦ rw e (λ _ i. inl i, b)
            | ends h z f e ↦ rw e (node_done d set f, λ _. join-same set d h)
            | goes h z t e ↦
                let inner = port-done depth d 0 (seen (join set d) 0) (omega (arith, entered d set h z)) in
                rw e (router-done d set _ inner.1 inner.0, λ _. port-stays depth d 0 (seen (join set d) 0) d (join-same set d h))
          ]

      pub port-done : (depth d p : ℕ) (s : Seen) → left s.set + (9 - p) < depth → let r = (port depth d p s).set in Done s.set r × Ports p d r
      port-done zero d p s l = absurd (omega arith)
      port-done (suc depth) d p s l =
          dite (dec_lt p (has d))
          (λ h.
          let behind = device depth (next d p) s.set in
          let first = device-done depth (next d p) s.set (omega (arith, few d)) in
          let rest = port-done depth d (p + 1) (onward s behind) (omega (arith, few d, fewer s.set behind.set (device-stays depth (next d p) s.set))) in
          let grows = port-stays depth d (p + 1) (onward s behind) in
          rw (port-goes depth d p s h) (still-done s.set behind.set _ grows first.0 rest.0, more-ports p d _ (λ n. grows (next d p) (first.1 n)) rest.1))
          (λ h. rw (port-ends depth d p s (omega arith)) (λ _ b. inl b, λ q g k n. absurd (omega arith)))
