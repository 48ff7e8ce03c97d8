-- `into_raw_box` takes the handle apart, and moves what it owns.
use Rattle.hingetulip_c.proofs.Handles.{audit_handle}
use Rattle.hingetulip_c.proofs.HandleWalks.{into_meets}
use Rattle.hingetulip_c.specs.contracts.audit_handle.AuditHandle.into_raw_box.Key as key
use Rattle.hingetulip_c.proofs.audit_handle.AuditHandle.into_raw_box.Statement.{statement}
use Rattle.hingetulip_c.proofs.audit_handle.AuditHandle.into_raw_box.Code as code

pub into_raw_box_spec : {M : Type 1} → statement M
into_raw_box_spec 𝓤 𝓛 𝓜 𝓡 wired = into_meets audit_handle 𝓛 𝓜 𝓡 key.name (code.unfolded 𝓤 𝓛.H 𝓜 𝓡 wired)
