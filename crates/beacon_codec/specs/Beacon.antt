-- The four bytes of a beacon.
use Rattle.std.specs.Prelude.{◌≡◌, ◌≢◌, ℕ, ◌<◌, ◌≤◌, ◌⊎◌, List, [], ◌∷◌, ◌++◌, length, slice_index, IsTrue, if◌then◌else◌}
use Rattle.byteorder.specs.Endian.{big_bytes, big_number}
use Rattle.beacon_codec.specs.declared.packet.Beacon.{Beacon}
use Rattle.beacon_codec.specs.declared.packet.BeaconFault.{BeaconFault}
use Rattle.beacon_codec.specs.declared.packet.BeaconFault.TheVariants.{Length, Round, Mode, Flags}

-- the flags: 1 for the trigger, 2 for an opening hyperperiod, 0 for neither
abbrev pub flags_of : Beacon → ℕ
flags_of b = if b.trigger then 1 else if b.opening then 2 else 0

-- the round's number with its high byte first, the mode, the flags
pub record BeaconBytes (b : Beacon) (bytes : List ℕ) : Type 0 where
  pub four : bytes ≡ big_bytes 2 b.round ++ b.mode ∷ flags_of b ∷ []
  pub one_flag : ¬ (IsTrue b.trigger × IsTrue b.opening)

-- the round and the mode are among so many of each
pub record IsAmong (rounds modes : ℕ) (b : Beacon) : Type 0 where
  pub first : 1 ≤ b.round
  pub last : b.round ≤ rounds
  pub mode : b.mode < modes

-- what is wrong with bytes, where nothing that comes before it is
abbrev pub FirstFault : ℕ → ℕ → List ℕ → BeaconFault → Type 0
FirstFault rounds modes bytes Length = length bytes ≢ 4
FirstFault rounds modes bytes Round = (length bytes ≡ 4) × ((big_number 2 bytes ≡ 0) ⊎ (rounds < big_number 2 bytes))
FirstFault rounds modes bytes Mode =
    (length bytes ≡ 4) × (1 ≤ big_number 2 bytes) × (big_number 2 bytes ≤ rounds) × (modes ≤ slice_index bytes 2)
FirstFault rounds modes bytes Flags =
    (length bytes ≡ 4) × (1 ≤ big_number 2 bytes) × (big_number 2 bytes ≤ rounds) × (slice_index bytes 2 < modes) × (3 ≤ slice_index bytes 3)
