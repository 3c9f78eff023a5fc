use Rattle.std.proofs.Common.{◌≡◌, refl, ap, ◌∙◌, subst, le_refl, List, [], ℕ, arith, length, take, take_all}
use borrow.Author.Tests.{ltb-true}
use Rattle.std.proofs.KnownBytes.{Consumes-kept, Consumes-nil}
use Rattle.std.proofs.Math.Seq.{take-append_seam}
use Rattle.std.specs.Io.KnownBytes.{Appends}
use Rattle.areas.specs.Put.{over}
use Rattle.listing.specs.Listing.{lines, Lists}
use Rattle.decode.proofs.list_some.Goals as goal

-- nothing was read, and nothing is listed
none-listed : (page : List ℕ) → page ≡ over (lines []) page
unfolding over lines
none-listed page = refl

-- what was written over an area stands in front
front : (w before : List ℕ) → take (length w) (over w before) ≡ w
unfolding over
front w before = take-append_seam w _

-- the lines of a whole piece were put, and they are what stands in front
whole : {piece before after : List ℕ} {used : ℕ} → Lists piece before (length piece) used after → (after ≡ over (lines piece) before) × (take used after ≡ lines piece)
whole {piece} {before} {after} {used} l =
    let all : take (length piece) piece ≡ piece = take_all _ _ (le_refl _) in
    let text = l.text ∙ ap (λ (bytes : List ℕ). over (lines bytes) before) all in
    let size = l.size ∙ ap (λ (bytes : List ℕ). length (lines bytes)) all in
    (text, ap (take used) text ∙ ap (λ n. take n (over (lines piece) before)) size ∙ front (lines piece) before)

pub returns-in_default : goal.returns-in_default
returns-in_default g c =
    ([], omega arith, none-listed _, Consumes-kept _ _ _ _ (Consumes-nil _) c.in_default.ensures.bytes, λ h. absurd (cc h))

pub returns : goal.returns
returns g c =
    let piece = take c.in-Ok.n c.read.new.buf in
    let count = c.in-Ok.ensures.bound in
    let put = whole c.list_piece-length.ensures in
    (piece, omega (arith, count.0, count.1, c.read.auto.buf), put.0, c.in-Ok.ensures.bytes.0, λ h. (omega (arith, count.1, ltb-true 0 c.in-Ok.n h), subst (Appends _ _) put.1 c.in-Ok-write_all.ensures.bytes))
