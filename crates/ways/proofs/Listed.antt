-- The ports that lead out, as a list: complete, in order, without repetition, as many as cut answers.
use mathlib.Core.Path.{◌≡◌, refl, sym, ap, ◌∙◌}
use mathlib.Core.Bool.{cond}
use mathlib.Core.List.{List, [], ◌∷◌, ◌++◌}
use mathlib.Core.Logic.{◌⊎◌, inl, inr}
use Prim.Native.Nat.{ℕ, zero, suc, ◌<◌}
use native.Mathlib.Decide.{dec_lt, ℕ_discrete}
use native.Mathlib.Omega.{arith}
use lib.Dec.{eqb}
use lib.ListN.{length, get_or, length-append, get_or-append}
use lib.Seq.{get_or-append_seam}
use borrow.Author.Tests.{eq-eqb, ne_eqb}
use Rattle.plan.specs.declared.Plan.{Plan}
use Rattle.state.specs.State.{State}
use Rattle.ways.specs.Cut.{marks, Out, AllCauses}
use Rattle.ways.proofs.Agree.{cause-out, out-cause}

-- those of the first n at which f is not 0
unfoldable pub outs : ℕ → (ℕ → ℕ) → List ℕ
outs zero f = []
outs (suc n) f = outs n f ++ cond (eqb (f n) 0) [] (n ∷ [])

module _ (f : ℕ → ℕ) where
  -- one more is there, or not
  data Next (n : ℕ) : Type 0 where
    same : f n ≡ 0 → outs (suc n) f ≡ outs n f → Next n
    more : (f n ≡ 0 → ⊥) → outs (suc n) f ≡ outs n f ++ (n ∷ []) → Next n

  next : (n : ℕ) → Next n
  unfolding outs
  next n =
      elim (ℕ_discrete (f n) 0) [
        | yes z ↦ same z (rw (eq-eqb (f n) 0 z) (append-none (outs n f)))
        | no z ↦ more z (rw (ne_eqb (f n) 0 z))
      ]
    where
      append-none : (l : List ℕ) → l ++ [] ≡ l
      append-none [] = refl
      append-none (x ∷ l) = ap (λ (r : List ℕ). x ∷ r) (append-none l)

  abbrev At : ℕ → ℕ → ℕ
  At n i = get_or (outs n f) i 0

  abbrev many : ℕ → ℕ
  many n = length (outs n f)

  -- what is in the list stays where it is
  front : (n i : ℕ) → i < many n → (i < many (suc n)) × (At (suc n) i ≡ At n i)
  front n i l =
      elim (next n) [
        | same z e ↦ (omega (arith, l, ap length e), ap (λ (r : List ℕ). get_or r i 0) e)
        | more z e ↦ (
          omega (arith, l, ap length e, length-append (outs n f) (n ∷ [])),
          ap (λ (r : List ℕ). get_or r i 0) e ∙ get_or-append (outs n f) (n ∷ []) 0 i l,
        )
      ]

  -- and one more is the last
  record Last (n i : ℕ) : Type 0 where
    place : i ≡ many n
    some : f n ≡ 0 → ⊥
    is : At (suc n) i ≡ n

  back : (n i : ℕ) → i < many (suc n) → (i < many n) ⊎ Last n i
  back n i l =
      elim (next n) [
        | same z e ↦ inl (omega (arith, l, ap length e))
        | more z e ↦
            elim (dec_lt i (many n)) [
              | yes g ↦ inl g
              | no g ↦
                  let last : i ≡ many n = omega (arith, g, l, ap length e, length-append (outs n f) (n ∷ [])) in
                  inr (record {
                    place = last;
                    some = z;
                    is = ap (λ (r : List ℕ). get_or r i 0) e ∙ ap (λ (j : ℕ). get_or (outs n f ++ (n ∷ [])) j 0) last ∙ get_or-append_seam (outs n f) n [] 0;
                  })
            ]
      ]

  -- each is one of the first n at which f is not 0
  only : (n i : ℕ) → i < many n → (At n i < n) × (f (At n i) ≡ 0 → ⊥)
  unfolding outs
  only zero i l = absurd (omega (arith, l))
  only (suc n) i l =
      elim (back n i l) [
        | inl g ↦ let w = only n i g in let v = (front n i g).1 in (omega (arith, w.0, v), λ y. w.1 (ap f (sym v) ∙ y))
        | inr x ↦ (omega (arith, x.is), λ y. x.some (ap f (sym x.is) ∙ y))
      ]

  all : (n q : ℕ) → q < n → (f q ≡ 0 → ⊥) → (i : ℕ) × (i < many n) × (At n i ≡ q)
  unfolding outs
  all zero q l some = absurd (omega (arith, l))
  all (suc n) q l some =
      elim (ℕ_discrete q n) [
        | no z ↦ let x = all n q (omega (arith, l, z)) some in let g = front n x.0 x.1 in (x.0, g.0, g.1 ∙ x.2)
        | yes z ↦ elim (next n) [
          | same y e ↦ absurd (some (ap f z ∙ y))
          | more y e ↦ (
            many n,
            omega (arith, ap length e, length-append (outs n f) (n ∷ [])),
            ap (λ (r : List ℕ). get_or r (many n) 0) e ∙ get_or-append_seam (outs n f) n [] 0 ∙ sym z,
          )
        ]
      ]

  rising : (n i j : ℕ) → i < j → j < many n → At n i < At n j
  unfolding outs
  rising zero i j l g = absurd (omega (arith, g))
  rising (suc n) i j l g =
      elim (back n j g) [
        | inl w ↦ omega (arith, rising n i j l w, (front n i (omega (arith, l, w))).1, (front n j w).1)
        | inr x ↦
            let h : i < many n = omega (arith, l, x.place) in
            omega (arith, (only n i h).0, (front n i h).1, x.is)
      ]

  counted : (n : ℕ) → many n ≡ marks n f
  unfolding outs marks
  counted zero = refl
  counted (suc n) =
      elim (ℕ_discrete (f n) 0) [
        | yes z ↦ length-append (outs n f) _ ∙ rw (eq-eqb (f n) 0 z) (omega (arith, counted n))
        | no z ↦ length-append (outs n f) _ ∙ rw (ne_eqb (f n) 0 z) (omega (arith, counted n))
      ]

-- ---- of what cut answers

module _ (plan : Plan) (s : State) (d k value : ℕ) (causes : List ℕ) (x : AllCauses plan s d k value causes) where
  -- the ports at which the area is not 0
  abbrev ports : List ℕ
  ports = outs 256 (λ q. get_or causes q 0)

  pub record Listed : Type 0 where
    pub leads-out : (i : ℕ) → i < length ports → Out plan s d k (get_or ports i 0)
    pub complete : (q : ℕ) → q < 256 → Out plan s d k q → (i : ℕ) × (i < length ports) × (get_or ports i 0 ≡ q)
    pub in_order : (i j : ℕ) → i < j → j < length ports → get_or ports i 0 < get_or ports j 0
    pub as_many : length ports ≡ value

  pub listed : Listed
  listed =
      let f : ℕ → ℕ = λ q. get_or causes q 0 in
      record {
        leads-out = λ i l. let w = only f 256 i l in out-cause plan s k d _ _ (x.each _ w.0) w.1;
        complete = λ q l o. all f 256 q l (λ z. omega (arith, z, (cause-out plan s k d q _ (x.each q l) o).0));
        in_order = rising f 256;
        as_many = counted f 256 ∙ sym x.many;
      }
