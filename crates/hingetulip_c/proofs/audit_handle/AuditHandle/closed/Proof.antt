-- `closed` owns nothing.
use Rattle.hingetulip_c.proofs.Handles.{audit_handle}
use Rattle.hingetulip_c.proofs.HandleWalks.{closed_meets}
use Rattle.hingetulip_c.specs.contracts.audit_handle.AuditHandle.closed.Key as key
use Rattle.hingetulip_c.proofs.audit_handle.AuditHandle.closed.Statement.{statement}
use Rattle.hingetulip_c.proofs.audit_handle.AuditHandle.closed.Code as code

pub closed_spec : {M : Type 1} → statement M
closed_spec 𝓤 𝓛 𝓜 𝓡 wired = closed_meets audit_handle 𝓛 𝓜 𝓡 key.name (code.unfolded 𝓤 𝓛.H 𝓜 𝓡 wired)
