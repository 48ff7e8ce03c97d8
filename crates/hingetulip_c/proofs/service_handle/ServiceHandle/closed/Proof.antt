-- `closed` owns nothing.
use Rattle.hingetulip_c.proofs.Handles.{service_handle}
use Rattle.hingetulip_c.proofs.HandleWalks.{closed_meets}
use Rattle.hingetulip_c.specs.contracts.service_handle.ServiceHandle.closed.Key as key
use Rattle.hingetulip_c.proofs.service_handle.ServiceHandle.closed.Statement.{statement}
use Rattle.hingetulip_c.proofs.service_handle.ServiceHandle.closed.Code as code

pub closed_spec : {M : Type 1} → statement M
closed_spec 𝓤 𝓛 𝓜 𝓡 wired = closed_meets service_handle 𝓛 𝓜 𝓡 key.name (code.unfolded 𝓤 𝓛.H 𝓜 𝓡 wired)
