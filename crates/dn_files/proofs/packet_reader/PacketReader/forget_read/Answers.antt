use Rattle.dn_files.proofs.Words.{List, Unread, ap, arith, drop, ℕ, ◌<◌, ◌∙◌}
use Rattle.dn_files.proofs.PacketParts.{forgotten}
use Rattle.dn_files.proofs.packet_reader.PacketReader.forget_read.Goals as goal

pub returns-then-self-len : goal.returns-then-self-len
returns-then-self-len c =
    let inside = c.self.inside in
    let some : 0 < inside.start = omega arith in
    ap (λ (t : List ℕ). let u : Unread = record { number = inside.number; text = t } in u) (ap (drop 1) c.remove_front.ensures ∙ forgotten inside.start inside.text.items some) ∙ c.self.view_is
