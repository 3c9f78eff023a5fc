-- What owning a plan tells of it: its arrays are as long as their types say, and their numbers fit. Assumes nothing.
use mathlib.Core.Path.{◌≡◌}
use mathlib.Core.List.{List, [], ◌∷◌}
use Prim.Native.Nat.{ℕ, zero, suc, ◌<◌, ◌^◌}
use native.Mathlib.Omega.{arith}
use lib.ListN.{length, get_or}
use lib.Dec.{le→leb}
use mir.Syntax.{Width, w8, w16, w32}
use mir.Val.{Val, bits}
use borrow.Author.Rules.{elem_Fits}
use denote.Array.{Array, each}
use denote.Plain.{UInt}
use denote.Laws.{Is}
use denote.Shadow.{shadow}
use denote.Struct.Field.{Field, array_field, u16-field}
use denote.Struct.Laws as LL
use Rattle.plan.specs.declared.Plan.{Plan}
use Rattle.plan.specs.contracts.Core as Cr
use Rattle.plan.proofs.Core.TheLaws as Cr'
use Rattle.plan.specs.contracts.Plan as T
use Rattle.plan.proofs.Plan.TheLaws as T'
use Rattle.plan.proofs.Shape.{Numbers, Shaped}

module _ (w : Width) (n : ℕ) where
  numbers : (xs : List ℕ) (vs : List Val) → Is (Array (UInt w) n) xs vs → Numbers xs n (2 ^ bits w)
  numbers xs vs is = record { long = is.1.0.1; small = λ i. (elem_Fits w w xs is.0 i is.1.1 (le→leb (bits w) (bits w) (omega arith))).fits }

-- the type of the peers, [[u16; 8]; 32], as a field
abbrev Row8 : Field
Row8 = array_field u16-field 8

abbrev F : Field
F = array_field Row8 32

abbrev FL : LL.FLaws F
FL = LL.array_laws Row8 (LL.array_laws u16-field LL.u16-laws 8) 32

-- row d of an array of rows of 8
row : (xss : List (List ℕ)) (us : List Val) → shadow (each (List ℕ) (Array (UInt w16) 8).own_val xss us) → (d : ℕ) → d < length xss → Numbers (get_or xss d []) 8 65536
row [] us is d l = absurd (omega arith)
row (xs ∷ xss) [] is d l = absurd is
row (xs ∷ xss) (u ∷ us) is zero l = numbers w16 8 xs _ is.0
row (xs ∷ xss) (u ∷ us) is (suc d) l = row xss us is.1 d (omega arith)

pub owned : (plan : Plan) (vs : List Val) → Is T.the_row plan vs → Shaped plan
owned plan vs is =
    let parts = LL.owed T.the_type T'.the_laws plan vs is in
    let c = plan.core in
    let core = LL.owed Cr.the_type Cr'.the_laws c _ parts.0 in
    let v = FL.val plan.peers ∷ [] in
    let peers : Is F.row plan.peers v = parts.1.0 in
    let long : length plan.peers ≡ 32 = peers.1.0.1 in
    record {
      events = core.1.1.0.1;
      loads = numbers w16 66 c.loads _ core.1.1.1.0;
      role = numbers w8 32 c.role _ core.1.1.1.1.0;
      ports = numbers w8 32 c.ports _ core.1.1.1.1.1.0;
      source = numbers w32 32 c.source _ core.1.1.1.1.1.1.0;
      handler = numbers w32 32 c.handler _ core.1.1.1.1.1.1.1.0;
      permissions = numbers w8 256 c.permissions _ core.1.1.1.1.1.1.1.1.0;
      rows = long;
      row = λ d l. row plan.peers peers.0 peers.1.1 d (omega arith);
      barred = numbers w32 512 plan.barred _ parts.1.1.0;
    }
