-- The lines, in their parts: how long each is, and one line more behind others.
use mathlib.Core.Path.{◌≡◌, refl, sym, ap, ◌∙◌}
use mathlib.Core.List.{List, [], ◌∷◌, ◌++◌, append_assoc, append-nil}
use Prim.Native.Nat.{ℕ, ◌+◌, ◌/◌, ◌%◌, ◌≤◌, ◌<◌}
use native.Mathlib.Numerals.{add-one}
use native.Mathlib.Omega.{arith}
use lib.ListN.{length, get_or, take, length-append}
use lib.Seq.{take-suc}
use borrow.Author.Tests.{eq-eqb, ne_eqb}
use Rattle.text.specs.Inner.Within.{WritesWithin}
use Rattle.text.specs.Page.{Writes}
use Rattle.text.specs.Text.{ascii, decimal, port as text_port, joint}
use Rattle.text.specs.declared.page.Page.{Page}
use Rattle.text.proofs.Decimal.{decimal-short}
use Rattle.text.proofs.Pages.{then}
use Rattle.text.proofs.Parts.{part}
use Rattle.plan.specs.declared.Plan.{Plan}
use Rattle.state.specs.Network.{peer_in}
use Rattle.ways.specs.Cut.{number_of}
use Rattle.ways.specs.declared.Cause.{Cause}
use Rattle.ways.specs.declared.Cause.TheVariants.{Stopped, MayNotSend, MayNotReceive, DoesNotForward, Barred}
use Rattle.reasons.specs.Why.{port, crossing, crossings_of, called, outward}
use Rattle.reasons.specs.Inner.Pieces.{joints}

-- ---- a port

port-short : (q : ℕ) → q < 256 → length (port q) ≤ 4
unfolding port ascii
port-short q h = simp length-append (omega (arith, decimal-short 1 (q / 8) (omega arith), decimal-short 0 (q % 8) (omega arith)))

-- its two numbers were put, with a word behind them
pub port-put : (q : ℕ) (word : List ℕ) {p p₁ p₂ : Page} → q < 256 → p.at + (4 + length word) ≤ length p.area.now
    → Writes (part (q / 8) (ascii " ")) p p₁ → Writes (part (q % 8) word) p₁ p₂ → WritesWithin (4 + length word) (port q ++ word) p p₂
port-put q word h room a b =
    let e : part (q / 8) (ascii " ") ++ part (q % 8) word ≡ port q ++ word = unfold port in sym (append_assoc (part (q / 8) (ascii " ")) (decimal (q % 8)) word) in
    let s = length-append (port q) word in
    let short : length (port q ++ word) ≤ 4 + length word = omega (arith, s, port-short q h) in
    record { short = short; writes = rw e at (then a (omega (arith, ap length e, short, room)) b) }

-- ---- crossings

joints-last : (peers : List (List ℕ)) (w : List ℕ) (q : ℕ) → joints peers (w ++ (q ∷ [])) ≡ joints peers w ++ joint q (peer_in peers q)
unfolding joints
joints-last peers [] q = append-nil (joint q (peer_in peers q))
joints-last peers (p ∷ w) q =
    ap (λ (l : List ℕ). joint p (peer_in peers p) ++ l) (joints-last peers w q)
    ∙ sym (append_assoc (joint p (peer_in peers p)) (joints peers w) (joint q (peer_in peers q)))

-- they are those of the rules
pub joints-crossings : (plan : Plan) (ports : List ℕ) → joints plan.peers ports ≡ crossings_of plan ports
unfolding joints crossings_of
joints-crossings plan [] = refl
joints-crossings plan (q ∷ rest) = ap (λ (l : List ℕ). joint q (peer_in plan.peers q) ++ l) (joints-crossings plan rest) ∙ (unfold joint crossing text_port port in refl)

-- the lines of the first ports, and of one more
module _ (peers : List (List ℕ)) (ports : List ℕ) where
  pub joints-none : [] ≡ joints peers (take 0 ports)
  unfolding joints
  joints-none = refl

  pub joints_one : (i : ℕ) → i < length ports
      → joints peers (take i ports) ++ joint (get_or ports i 0) (peer_in peers (get_or ports i 0)) ≡ joints peers (take (i + 1) ports)
  joints_one i h =
      sym (ap (joints peers) (rw (add-one i, take-suc ports i 0 h)) ∙ joints-last peers (take i ports) (get_or ports i 0))

-- ---- causes

-- each has a number above 0
pub cause-some : (c : Cause) → number_of c ≡ 0 → ⊥
cause-some Stopped e = omega (arith, e)
cause-some MayNotSend e = omega (arith, e)
cause-some MayNotReceive e = omega (arith, e)
cause-some DoesNotForward e = omega (arith, e)
cause-some Barred e = omega (arith, e)

pub outward-none : (q c : ℕ) → c ≡ 0 → [] ≡ outward q c
unfolding outward
outward-none q c e = rw (eq-eqb c 0 e)

pub outward-some : (q c : ℕ) → (c ≡ 0 → ⊥) → (port q ++ ascii " ") ++ called c ++ ascii "\n" ≡ outward q c
unfolding outward
outward-some q c n = rw (ne_eqb c 0 n)
