-- Words put on a page within so many bytes, one behind the other, and lines put by a loop.
use mathlib.Core.Path.{◌≡◌, refl, subst}
use mathlib.Core.List.{List, [], ◌++◌}
use Prim.Native.Nat.{ℕ, ◌+◌, ◌*◌, ◌≤◌, ◌<◌}
use native.Mathlib.Nat.{mul-suc, mul-le-mul_left}
use native.Mathlib.Numerals.{add-one}
use native.Mathlib.Omega.{arith}
use lib.ListN.{length, length-append}
use Rattle.lists.specs.Table.{joined}
use Rattle.text.specs.Inner.Within.{Within, WritesWithin}
use Rattle.text.specs.Page.{Writes}
use Rattle.text.specs.declared.page.Page.{Page}
use Rattle.text.proofs.Pages.{as_long, goes_on, then}
use Rattle.text.proofs.Parts.{puts-nothing}

pub nothing : (p : Page) → WritesWithin 0 [] p p
nothing p = record { short = omega arith; writes = record { puts = puts-nothing p.area.now p.at; same = refl } }

module _ {m : ℕ} {w : List ℕ} {p q : Page} (a : WritesWithin m w p q) where
  -- within more bytes
  pub looser : {n : ℕ} → m ≤ n → WritesWithin n w p q
  looser h = record { short = omega (arith, a.short); writes = a.writes }

  -- into the page's area
  pub in-area : Within m p.area.now p.at w q.area.now q.at
  in-area = record { short = a.short; put = a.writes.puts }

  pub same_word : {v : List ℕ} → w ≡ v → WritesWithin m v p q
  same_word e = subst (λ (l : List ℕ). WritesWithin m l p q) e a

  -- there is room for k bytes more
  module _ (k : ℕ) (room : p.at + (m + k) ≤ length p.area.now) where
    pub room-behind : q.at + k ≤ length q.area.now
    room-behind = omega (arith, a.short, room, as_long a.writes, goes_on a.writes (omega (arith, a.short, room)))

    pub both : {v : List ℕ} {r : Page} → WritesWithin k v q r → WritesWithin (m + k) (w ++ v) p r
    both {v} b =
        let e = length-append w v in
        record {
          short = omega (arith, e, a.short, b.short);
          writes = then a.writes (omega (arith, e, a.short, b.short, room)) b.writes;
        }

pub within : {m : ℕ} {w : List ℕ} {p q : Page} → length w ≤ m → Writes w p q → WritesWithin m w p q
within h a = record { short = h; writes = a }

-- ---- lines put by a loop

-- the first i of n lines were put, none longer than so many bytes
pub record Lined (lines : ℕ → List ℕ) (most n : ℕ) (p : Page) (i : ℕ) (q : Page) : Type 0 where
  pub some : i ≤ n
  pub within : WritesWithin (most * i) (lines i) p q

pub lined-none : {lines : ℕ → List ℕ} {most n : ℕ} {p : Page} → [] ≡ lines 0 → Lined lines most n p 0 p
lined-none {p = p} e = record { some = omega arith; within = looser (same_word (nothing p) e) (omega arith) }

module _ {lines : ℕ → List ℕ} {most n : ℕ} {p : Page} {i : ℕ} {q : Page} (v : Lined lines most n p i q) where
  module _ (h : i < n) (room : p.at + most * n ≤ length p.area.now) where
    next-room : p.at + (most * i + most) ≤ length p.area.now
    next-room = omega (arith, room, mul-suc most i, mul-le-mul_left most h)

    pub lined-room : q.at + most ≤ length q.area.now
    lined-room = room-behind v.within most next-room

    pub lined-more : {line : List ℕ} {r : Page} → lines i ++ line ≡ lines (i + 1) → WritesWithin most line q r → Lined lines most n p (i + 1) r
    lined-more e b =
        record {
          some = omega (arith, h);
          within = looser (same_word (both v.within most next-room b) e) (rw add-one (omega (arith, mul-suc most i)));
        }

  pub lined-all : n ≤ i → WritesWithin (most * n) (lines n) p q
  lined-all h = let e : i ≡ n = omega (arith, h, v.some) in rw e at v.within

-- lines that are joined
module _ (f : ℕ → List ℕ) where
  pub none-joined : [] ≡ joined 0 f
  unfolding joined
  none-joined = refl

  pub one-joined : (i : ℕ) → joined i f ++ f i ≡ joined (i + 1) f
  unfolding joined
  one-joined i = rw (add-one i)
