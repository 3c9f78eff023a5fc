-- `bench::rounds::post_all` meets its contract. The invariant: the ports before port q have sent, and those that are lacking have sent nothing. Assumes nothing.
use mathlib.Core.Path.{◌≡◌, sym, ◌∙◌}
use mathlib.Core.Bool.{false, cond}
use mathlib.Core.List.{List}
use mathlib.Core.Logic.{dite}
use Prim.Native.Nat.{ℕ, ◌+◌, ◌-◌, ◌*◌, ◌/◌, ◌≤◌, ◌<◌}
use native.Mathlib.Decide.{dec_lt, ℕ_discrete}
use native.Mathlib.Omega.{arith}
use lib.Dec.{ltb}
use lib.ListN.{length, get_or, set, length-set}
use lib.Seq.{get_or-set_same, get_or-set_other}
use borrow.Author.Tests.{lt-ltb, le-ltb}
use Rattle.lists.specs.Table.{table}
use Rattle.lists.proofs.Loops.{After, none, turn, still}
use Rattle.lists.proofs.Tables.{is-table}
use Rattle.std.specs.Prelude.{None}
use Rattle.state.specs.State.{State, waiting, time}
use Rattle.state.specs.Network.{devices}
use Rattle.bench.specs.Round.{nothing, sent_words, time_goes, chosen, sends, posts}
use Rattle.bench.specs.Inner.Idle.{Silent}
use Rattle.bench.proofs.Stepped.{goes-not, chosen_none, post-nothing, post-same}
use Rattle.bench.proofs.rounds.post_all.Given as goal

-- port j is none of n devices, or its device, which has so many ports, lacks it
abbrev pub Lacking : ℕ → List ℕ → ℕ → Type 0
Lacking n ports j = j < 8 * n → 8 * (j / 8) + get_or ports (j / 8) 0 ≤ j

-- the ports before q have sent: what waited there has left, and their bytes stand in front
pub record Posted (n : ℕ) (ports : List ℕ) (old next₀ : State) (q : ℕ) (next : State) (sent : List ℕ) : Type 0 where
  pub after : After (posts old) (8 * n) q next₀ next
  pub room : length sent ≡ sent_words
  pub front : (j : ℕ) → j < q → get_or sent j nothing ≡ sends old j
  pub rest : (j : ℕ) → q ≤ j → j < sent_words → Lacking n ports j → get_or sent j nothing ≡ nothing

pub begun : (n : ℕ) (ports : List ℕ) (old next : State) (sent : List ℕ) → Silent n ports sent → Posted n ports old next 0 next sent
begun n ports old next sent x =
    record { after = none; room = x.size; front = λ j h. absurd (omega arith); rest = λ j a b h. x.unsent j b h }

module _ {n : ℕ} {ports : List ℕ} {old next₀ : State} {q : ℕ} {next : State} {sent : List ℕ} (few : n ≤ 32) (v : Posted n ports old next₀ q next sent) where
  pub again : q < 8 * n → {byte : ℕ} → byte ≡ sends old q → {t : State} → t ≡ posts old q next
      → Posted n ports old next₀ (q + 1) t (set sent q byte)
  again h {byte} p e =
      record {
        after = turn v.after h e;
        room = length-set sent q byte ∙ v.room;
        front = λ j m. elim (ℕ_discrete j q) [
          | yes z ↦ rw z (get_or-set_same sent q byte nothing (omega (arith, v.room)) ∙ p)
          | no n ↦ get_or-set_other sent q j byte nothing n ∙ v.front j (omega arith)
        ];
        rest = λ j a b m. get_or-set_other sent q j byte nothing (omega arith) ∙ v.rest j (omega arith) b m;
      }

  -- at the ports up to e nothing waits, since they are lacking
  pub skip : {e : ℕ} → q ≤ e → e ≤ 8 * n → ((j kind : ℕ) → q ≤ j → j < e → kind < 2 → waiting old kind j ≡ 0) → ((j : ℕ) → q ≤ j → j < e → time old j ≡ 0)
      → ((j : ℕ) → q ≤ j → j < e → Lacking n ports j) → Posted n ports old next₀ e next sent
  skip {e} l h w x lacks =
      let nowhere : (j : ℕ) → q ≤ j → j < e → chosen old j ≡ None = λ j a b. chosen_none old j (λ kind k. w j kind a b k) in
      let no-time : (j : ℕ) → q ≤ j → j < e → time_goes old j ≡ false = λ j a b. goes-not old j (rw (x j a b)) in
      record {
        after = still (posts old) v.after l h (λ j a b. post-same old j (no-time j a b) (nowhere j a b) next);
        room = v.room;
        front = λ j m. dite (dec_lt j q) (v.front j)
            (λ n. v.rest j (omega arith) (omega arith) (lacks j (omega arith) m) ∙ sym (post-nothing old j (no-time j (omega arith) m) (nowhere j (omega arith) m)));
        rest = λ j a b m. v.rest j (omega arith) b m;
      }

  -- all ports
  pub all-sent : q ≡ 8 * n → sent ≡ table sent_words (λ j. cond (ltb j (8 * n)) (sends old j) nothing)
  all-sent e =
      is-table sent_words _ sent nothing v.room
      (λ j l. dite (dec_lt j (8 * n)) (λ h. v.front j (omega arith) ∙ rw (lt-ltb j (8 * n) h))
      (λ h. v.rest j (omega arith) l (λ m. absurd (omega arith)) ∙ rw (le-ltb j (8 * n) (omega arith))))

abbrev pub invariant-loop-q : goal.invariant-loop-q
invariant-loop-q l =
    ((start : State) → Posted (devices l.plan) l.plan.core.ports l.old start l.first l.initial.next l.initial.sent
    → Posted (devices l.plan) l.plan.core.ports l.old start l.q l.next l.sent)
    × (l.q ≤ l.end)
    × (l.end ≤ 8 * devices l.plan)

abbrev pub decreases-loop-q : goal.decreases-loop-q
decreases-loop-q l = l.end - l.q

abbrev pub invariant-loop-d : goal.invariant-loop-d
invariant-loop-d l = Posted (devices l.plan) l.plan.core.ports l.old l.initial.next (8 * l.d) l.next l.sent × (l.d ≤ devices l.plan)

abbrev pub decreases-loop-d : goal.decreases-loop-d
decreases-loop-d l = devices l.plan - l.d
