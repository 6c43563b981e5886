-- What contracts see of a host
use Rattle.std.specs.Prelude.{◌≡◌, ℕ, ◌+◌, ◌-◌, ◌<◌, ◌≤◌, Bool, true, false, List, length, slice_index_or, All, Option, Some, None}
use Rattle.beacon_codec.specs.declared.packet.Beacon.{Beacon}
use Rattle.runtime_model.specs.Timeline.{PlainPhase, steady, warn, drain, drains}
use Rattle.runtime_model.specs.HostCalls.{HostCall, PlainHost, after_call}
use Rattle.runtime_model.specs.Outcomes.{PlainBeacon, beacon_of}

-- a host's state, and of each mode the number of rounds and the number over the file of its first round
pub record HostSeen : Type 0 where
  pub host : PlainHost
  pub rounds : List ℕ
  pub firsts : List ℕ

-- the host after one more call
abbrev pub with_call : HostSeen → HostCall → HostSeen
with_call s c = record s { host = after_call s.rounds s.host c }

-- the number over the file of the host's round
abbrev pub round_number : HostSeen → ℕ
round_number s = slice_index_or s.firsts s.host.mode 0 + (s.host.round - 1)

-- the beacon of a host that is in a round
abbrev pub host_beacon : HostSeen → PlainBeacon
host_beacon s = beacon_of (round_number s) s.host.mode s.host.phase s.host.opening

-- the beacon of the code as the timeline's
abbrev pub plain_beacon : Beacon → PlainBeacon
plain_beacon b = record { round = b.round; mode = b.mode; trigger = b.trigger; opening = b.opening }

-- a mode that a phase names is one of n
abbrev pub PhaseBelow : ℕ → PlainPhase → Type 0
PhaseBelow n steady = Unit {0}
PhaseBelow n (warn m) = m < n
PhaseBelow n (drain m) = m < n

-- a mode that waits is one of n
abbrev pub ModeBelow : ℕ → Option ℕ → Type 0
ModeBelow n None = Unit {0}
ModeBelow n (Some m) = m < n

-- what is kept of every host: its modes are among those that it knows, no opening hyperperiod drains, and its numbers fit those of a beacon
pub record HostFits (mode round : ℕ) (phase : PlainPhase) (opening : Bool) (waiting : Option ℕ) (rounds firsts : List ℕ) : Type 0 where
  pub same : length firsts ≡ length rounds
  pub modes_fit : length rounds ≤ 8
  pub mode_fits : mode < length rounds
  pub phase_fits : PhaseBelow (length rounds) phase
  pub one_flag : drains phase ≡ true → opening ≡ false
  pub waiting_fits : ModeBelow (length rounds) waiting
  pub from_one : 1 ≤ round
  pub round_fits : round ≤ 256
  pub rounds_fit : All (λ r. r ≤ 256) rounds
  pub firsts_fit : All (λ r. r ≤ 2048) firsts
