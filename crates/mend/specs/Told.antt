-- RULES, "What rescue prints": the whole output: the mended file, if nothing is refused, and the text.
use Rattle.std.specs.Prelude.{◌≡◌, List, ℕ, ◌≤◌, length}
use Rattle.areas.specs.Put.{over}
use Rattle.text.specs.Text.{bad}
use Rattle.mend.specs.Mended.{mended}
use Rattle.mend.specs.Rescue.{longest, refusal, rescue_text, Lent}

-- done, the mended file and what was mended; refused, the number and the block, and the area for the file is as it was. Without room for a text
-- nothing is printed
pub record Prints (file : List ℕ) (before : Lent) (number used : ℕ) (after : Lent) : Type 0 where
  pub answers : number ≡ (refusal file (length before.area) (length before.text)).number
  pub made : number ≡ 0 → (after.area ≡ mended file) × (used ≡ length (rescue_text file)) × (after.text ≡ over (rescue_text file) before.text)
  pub kept : (number ≡ 0 → ⊥) → longest ≤ length before.text → let text = bad number (refusal file (length before.area) (length before.text)).at in
      (after.area ≡ before.area) × (used ≡ length text) × (after.text ≡ over text before.text)
  pub silent : (number ≡ 0 → ⊥) → (longest ≤ length before.text → ⊥) → (used ≡ 0) × (after ≡ before)
