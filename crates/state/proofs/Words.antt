-- The words of a state: what stands where after words are put.
use mathlib.Core.Path.{◌≡◌}
use mathlib.Core.Logic.{◌≢◌}
use Prim.Native.Nat.{ℕ, ◌≤◌, ◌<◌}
use lib.ListN.{length, length-set, get_or-eq_default}
use lib.Seq.{get_or-set_same, get_or-set_other, set_comm, set-get_or}
use Rattle.state.specs.State.{State, word, put}

module _ (s : State) (i : ℕ) where
  -- there is none, and 0 is read
  pub word-past : length s ≤ i → word s i ≡ 0
  unfolding word
  word-past h = get_or-eq_default s 0 h

  pub length-put : (v : ℕ) → length (put s i v) ≡ length s
  unfolding put
  length-put v = length-set s i v

  pub word_same : (v : ℕ) → i < length s → word (put s i v) i ≡ v
  unfolding put word
  word_same v h = get_or-set_same s i v 0 h

  pub word-other : (v j : ℕ) → j ≢ i → word (put s i v) j ≡ word s j
  unfolding put word
  word-other v j h = get_or-set_other s i j v 0 h

  pub put-comm : (j v w : ℕ) → i ≢ j → put (put s i v) j w ≡ put (put s j w) i v
  unfolding put
  put-comm j v w h = set_comm s i j v w h

  -- what stands there already
  pub put_word : put s i (word s i) ≡ s
  unfolding put word
  put_word = set-get_or s i 0
