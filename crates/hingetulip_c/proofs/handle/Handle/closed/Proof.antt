-- `closed` owns nothing.
use Rattle.hingetulip_c.proofs.Handles.{shaper_handle}
use Rattle.hingetulip_c.proofs.HandleWalks.{closed_meets}
use Rattle.hingetulip_c.specs.contracts.handle.Handle.closed.Key as key
use Rattle.hingetulip_c.proofs.handle.Handle.closed.Statement.{statement}
use Rattle.hingetulip_c.proofs.handle.Handle.closed.Code as code

pub closed_spec : {M : Type 1} → statement M
closed_spec 𝓤 𝓛 𝓜 𝓡 wired = closed_meets shaper_handle 𝓛 𝓜 𝓡 key.name (code.unfolded 𝓤 𝓛.H 𝓜 𝓡 wired)
