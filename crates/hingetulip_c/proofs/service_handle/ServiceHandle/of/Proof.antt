-- `of` moves what the pointer owns.
use Rattle.hingetulip_c.proofs.Handles.{service_handle}
use Rattle.hingetulip_c.proofs.HandleWalks.{of_meets}
use Rattle.hingetulip_c.specs.contracts.service_handle.ServiceHandle.of.Key as key
use Rattle.hingetulip_c.proofs.service_handle.ServiceHandle.of.Statement.{statement}
use Rattle.hingetulip_c.proofs.service_handle.ServiceHandle.of.Code as code

pub of_spec : {M : Type 1} → statement M
of_spec 𝓤 𝓛 𝓜 𝓡 wired = of_meets service_handle 𝓛 𝓜 𝓡 key.name (code.unfolded 𝓤 𝓛.H 𝓜 𝓡 wired)
