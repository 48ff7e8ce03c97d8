-- `into_raw_box` takes the handle apart, and moves what it owns.
use Rattle.hingetulip_c.proofs.Handles.{caller_handle}
use Rattle.hingetulip_c.proofs.HandleWalks.{into_meets}
use Rattle.hingetulip_c.specs.contracts.caller_handle.CallerHandle.into_raw_box.Key as key
use Rattle.hingetulip_c.proofs.caller_handle.CallerHandle.into_raw_box.Statement.{statement}
use Rattle.hingetulip_c.proofs.caller_handle.CallerHandle.into_raw_box.Code as code

pub into_raw_box_spec : {M : Type 1} → statement M
into_raw_box_spec 𝓤 𝓛 𝓜 𝓡 wired = into_meets caller_handle 𝓛 𝓜 𝓡 key.name (code.unfolded 𝓤 𝓛.H 𝓜 𝓡 wired)
