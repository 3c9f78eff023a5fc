-- RULES, "Plan file": the reader's refusals, in their order; the first found wins.
use Rattle.std.specs.Prelude.{Result, Ok, Err, Bool, cond, ◌&&◌, List, [], ◌∷◌, ◌++◌, ℕ, ◌+◌, ◌*◌, ◌%◌, eqb, leb, length}
use Rattle.answers.specs.Refusals.{number_of}
use Rattle.lists.specs.Table.{table, joined}
use Rattle.plan.specs.Block.{block, number_in, rest_zero, checked, kind_field}
use Rattle.plan.specs.Fields.{number_field, device_fields, ports_in, source_in, device_fits, peer_number, joins, sources_fit}
use Rattle.plan.specs.declared.Fault.{Fault}
use Rattle.plan.specs.Header.{devices_field, master_field, events_field, header_fields, header_in, header_fits}

-- a test: the number and the block that it is refused with, and whether the file passes
pub record Test : Type 0 where
  pub number : ℕ
  pub at : ℕ
  pub passes : Bool

abbrev pub test : ℕ → ℕ → Bool → Test
test number at passes = record { number = number; at = at; passes = passes }

-- what is said of a file: a number and the block that it is at; 0 and 0 where nothing is wrong
pub record Verdict : Type 0 where
  pub number : ℕ
  pub at : ℕ

-- nothing is wrong
abbrev pub accepts : Verdict
accepts = record { number = 0; at = 0 }

-- what an answer says of a file
abbrev pub verdict_in : {A : Type 0} → Result A Fault → Verdict
verdict_in (Ok v) = accepts
verdict_in (Err f) = record { number = number_of f.refusal; at = f.block }

-- the first test that is not passed
unfoldable pub first : List Test → Verdict
first [] = accepts
first (t ∷ ts) = cond t.passes (first ts) (record { number = t.number; at = t.at })

-- 512 to 16,896 bytes, in whole blocks
unfoldable pub length_fits : List ℕ → Bool
length_fits file = leb 512 (length file) && leb (length file) 16896 && eqb (length file % 512) 0

-- block 0: the check, the kind, the fields, the bytes in no field
unfoldable pub header_tests : List ℕ → List Test
header_tests s =
    test 21 0 (checked s)
    ∷ test 22 0 (eqb (number_in s kind_field) 1)
    ∷ test 23 0 (header_fits (header_in s))
    ∷ test 24 0 (rest_zero header_fields s)
    ∷ []

-- block 1 + d of n devices and their master: the check, the kind and the number, the fields, the bytes in no field
unfoldable pub device_tests : ℕ → ℕ → ℕ → List ℕ → List Test
device_tests n master d s =
    test 21 (1 + d) (checked s)
    ∷ test 22 (1 + d) (eqb (number_in s kind_field) 2 && eqb (number_in s number_field) d)
    ∷ test 23 (1 + d) (device_fits n master d s)
    ∷ test 24 (1 + d) (rest_zero device_fields s)
    ∷ []

-- the connections of device d, by port
unfoldable pub join_tests : (ℕ → ℕ) → (ℕ → ℕ → ℕ) → ℕ → List Test
join_tests ports peer d = table 8 (λ p. test 26 (1 + d) (joins ports peer d p))

module _ (file : List ℕ) where
  -- the block of device d
  abbrev pub device_block : ℕ → List ℕ
  device_block d = block file (1 + d)

  abbrev pub count_in : ℕ
  count_in = number_in (block file 0) devices_field

  abbrev pub master_in : ℕ
  master_in = number_in (block file 0) master_field

  abbrev pub events_in : ℕ
  events_in = number_in (block file 0) events_field

  abbrev pub source_of : ℕ → ℕ
  source_of d = source_in (device_block d)

  abbrev pub ports_of : ℕ → ℕ
  ports_of d = ports_in (device_block d)

  abbrev pub peer_of : ℕ → ℕ → ℕ
  peer_of d p = peer_number (device_block d) p

  unfoldable pub tests : List Test
  tests =
      (test 20 0 (length_fits file) ∷ [])
      ++ header_tests (block file 0)
      ++ (test 25 0 (eqb (length file) (512 * (1 + count_in))) ∷ [])
      ++ joined count_in (λ d. device_tests count_in master_in d (device_block d))
      ++ joined count_in (join_tests ports_of peer_of)
      ++ (test 27 0 (sources_fit events_in source_of count_in) ∷ [])

  unfoldable pub verdict : Verdict
  verdict = first tests
