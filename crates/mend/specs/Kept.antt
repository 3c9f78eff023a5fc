-- RULES, "What a rescue keeps": what a mended file has of the damaged one, and of the file that this was before.
use Rattle.std.specs.Prelude.{◌≡◌, true, false, List, ◌⊎◌, ℕ, ◌+◌, ◌*◌, ◌/◌, ◌%◌, ◌<◌, length, get_or}
use Rattle.plan.specs.Block.{block}
use Rattle.plan.specs.Fields.{role_in, ports_in, source_in, handler_in, entry, bar_in, peer_number, nobody}
use Rattle.plan.specs.Refusals.{device_block, count_in, master_in, peer_of, accepts, verdict}
use Rattle.mend.specs.Claims.{damaged, claimant}
use Rattle.mend.specs.Mended.{ports_for, mended}
use Rattle.mend.specs.Rescue.{longest, refusal}

-- what a rebuilt block says of device d: a router with no masks, that bars nothing; its ports, where each leads, and no permissions
pub record Router (file : List ℕ) (d : ℕ) (s : List ℕ) : Type 0 where
  pub role : role_in s ≡ 1
  pub ports : ports_in s ≡ ports_for file d
  pub source : source_in s ≡ 0
  pub handler : handler_in s ≡ 0
  pub peers : (p : ℕ) → p < 8 → peer_number s p ≡ claimant file (8 * d + p)
  pub permissions : (p : ℕ) → p < 8 → entry s p 2 ≡ 0
  pub bars : (j : ℕ) → j < 16 → bar_in s j ≡ 0

-- what a mended file is: accepted, with block 0 and the good blocks as they were and all others rebuilt. Of links it has those that good blocks tell
-- of, from both ends, and at a rebuilt block no other
pub record Keeps (file after : List ℕ) : Type 0 where
  pub accepted : verdict after ≡ accepts
  pub long : length after ≡ length file
  pub header : block after 0 ≡ block file 0
  pub good : (d : ℕ) → d < count_in file → damaged file d ≡ false → device_block after d ≡ device_block file d
  pub rebuilt : (d : ℕ) → d < count_in file → damaged file d ≡ true → Router file d (device_block after d)
  pub links : (d p : ℕ) → d < count_in file → p < 8 → damaged file d ≡ false → (peer_of file d p ≡ nobody → ⊥) → let t = peer_of file d p in
      (peer_of after d p ≡ t) × (peer_of after (t / 8) (t % 8) ≡ 8 * d + p)
  pub no-others : (d p : ℕ) → d < count_in file → p < 8 → damaged file d ≡ true → (peer_of after d p ≡ nobody → ⊥) → let q = peer_of after d p in
      (q / 8 < count_in file) × (damaged file (q / 8) ≡ false) × (peer_of file (q / 8) (q % 8) ≡ 8 * d + p)

-- the file is an accepted one, but for blocks of devices whose checks now fail
pub record DamageOf (whole file : List ℕ) : Type 0 where
  pub bytes : (i : ℕ) → get_or whole i 0 < 256
  pub accepted : verdict whole ≡ accepts
  pub long : length file ≡ length whole
  pub header : block file 0 ≡ block whole 0
  pub blocks : (d : ℕ) → d < count_in whole → (damaged file d ≡ true) ⊎ (device_block file d ≡ device_block whole d)

-- the block of the master is damaged
pub record MasterLost (file : List ℕ) : Type 0 where
  pub master : ℕ
  pub named : master_in file ≡ master + 1
  pub lost : damaged file master ≡ true

-- it is refused exactly where the master's block is damaged, by 23 with that block; else every device and every link that good blocks tell of is in
-- the mended file as it was in the whole one
pub record Recovers (whole file : List ℕ) : Type 0 where
  pub refused : (m : MasterLost file) → refusal file (length file) longest ≡ record { number = 23; at = m.master + 1 }
  pub taken : (MasterLost file → ⊥) → refusal file (length file) longest ≡ accepts
  pub devices : (d : ℕ) → d < count_in whole → damaged file d ≡ false → device_block (mended file) d ≡ device_block whole d
  pub links : (d p : ℕ) → d < count_in whole → p < 8 → damaged file d ≡ false → (peer_of whole d p ≡ nobody → ⊥) → let t = peer_of whole d p in
      (peer_of (mended file) d p ≡ t) × (peer_of (mended file) (t / 8) (t % 8) ≡ peer_of whole (t / 8) (t % 8)) × (peer_of whole (t / 8) (t % 8) ≡ 8 * d + p)
