use Rattle.std.proofs.Common.{◌≡◌, refl, sym, ap, ◌∙◌, subst, ℕ, List, length, take, length-take-le}
use Rattle.std.proofs.Math.Seq.{take-append_seam}
use mathlib.Core.Bool.{false≢true}
use Rattle.std.specs.Prelude.{Result, Ok, Err}
use Rattle.std.specs.Result.{OnOk, is_ok}
use Rattle.std.specs.Io.KnownBytes.{Appends}
use Rattle.areas.specs.Put.{over}
use Rattle.report.specs.Report.{Areas, Prints, Reports}
use Rattle.report.proofs.Texts.{made-room}
use Rattle.settle.proofs.settle.Goals as goal

-- what was written over an area stands in front
front : (w before : List ℕ) → take (length w) (over w before) ≡ w
unfolding over
front w before = take-append_seam w _

-- what was made stands in front of its area, and is the text of the file
made-text : {file : List ℕ} {before after : Areas} {value : ℕ} → Reports file before 0 value after → (text : List ℕ) × Prints file text × (take value after.text ≡ text)
made-text {before = before} {after} r =
    let x = r.made refl in
    (x.0, x.1, ap (λ n. take n after.text) x.2 ∙ ap (λ (a : Areas). take (length x.0) a.text) x.3 ∙ front x.0 before.text)

pub slice_bounds-text-end : goal.slice_bounds-text-end
slice_bounds-text-end g c = made-room c.make-length.ensures

pub slice_bounds-write_all-end : goal.slice_bounds-write_all-end
slice_bounds-write_all-end g c = sym (length-take-le _ _ (made-room c.make-length.ensures))

-- an answer whose failure has another name holds what it held
on-ok : {T E F P Q : Type 0} (r : Result T E) (x : Result T F) → is_ok x ≡ is_ok r → (P → Q) → OnOk r P → OnOk x Q
on-ok (Ok v) (Ok w) e f p = f p
on-ok (Ok v) (Err y) e f p = tt
on-ok (Err x) (Ok w) e f p = absurd (false≢true (sym e))
on-ok (Err x) (Err y) e f p = tt

pub returns : goal.returns
returns g c =
    let made = made-text c.make-length.ensures in
    on-ok _ _ c.map_err.ensures.variant (λ a. (made.0, made.1, subst (Appends _ _) made.2 a)) c.write_all.ensures.bytes
