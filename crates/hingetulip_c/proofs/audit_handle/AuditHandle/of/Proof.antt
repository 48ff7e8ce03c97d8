-- `of` moves what the pointer owns.
use Rattle.hingetulip_c.proofs.Handles.{audit_handle}
use Rattle.hingetulip_c.proofs.HandleWalks.{of_meets}
use Rattle.hingetulip_c.specs.contracts.audit_handle.AuditHandle.of.Key as key
use Rattle.hingetulip_c.proofs.audit_handle.AuditHandle.of.Statement.{statement}
use Rattle.hingetulip_c.proofs.audit_handle.AuditHandle.of.Code as code

pub of_spec : {M : Type 1} → statement M
of_spec 𝓤 𝓛 𝓜 𝓡 wired = of_meets audit_handle 𝓛 𝓜 𝓡 key.name (code.unfolded 𝓤 𝓛.H 𝓜 𝓡 wired)
