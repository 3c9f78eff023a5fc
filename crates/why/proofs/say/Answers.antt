use Rattle.std.proofs.Common.{◌≡◌, refl, sym, ap, ◌∙◌, subst, Bool, ℕ, List, length, take, length-take-le}
use Rattle.std.proofs.Math.Seq.{take-append_seam}
use Rattle.std.specs.Io.KnownBytes.{Appends}
use Rattle.areas.specs.Put.{over}
use Rattle.reasons.specs.Why.{Prints, TellsWhy}
use Rattle.reasons.proofs.Texts.{made-room}
use Rattle.why.proofs.say.Goals as goal

-- what was written over an area stands in front
front : (w before : List ℕ) → take (length w) (over w before) ≡ w
unfolding over
front w before = take-append_seam w _

-- what was made stands in front of its area, and is the text
made-text : {file bytes before after : List ℕ} {given : Bool} {d k e value : ℕ} → TellsWhy file given bytes d k e before 0 value after
    → (text : List ℕ) × Prints file given bytes d k e text × (take value after ≡ text)
made-text {before = before} {after} r =
    let x = r.made refl in
    (x.0, x.1, ap (λ n. take n after) x.2 ∙ ap (take (length x.0)) x.3 ∙ front x.0 before)

pub slice_bounds-text-end : goal.slice_bounds-text-end
slice_bounds-text-end g c = made-room c.make-length.ensures

pub slice_bounds-write_all-end : goal.slice_bounds-write_all-end
slice_bounds-write_all-end g c = sym (length-take-le _ _ (made-room c.make-length.ensures))

pub returns-in-Ok : goal.returns-in-Ok
returns-in-Ok g c =
    let made = made-text c.make-length.ensures in
    (made.0, made.1, subst (Appends _ _) made.2 c.in-Ok.ensures.bytes)
