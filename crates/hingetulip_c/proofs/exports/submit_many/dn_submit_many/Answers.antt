-- A turn tells the fate of one packet more, and the last one all of them.
use Rattle.hingetulip_c.proofs.Words.{CFate, CPacket, Call, CanLackMemory, Exhausted, Faulty, HeldAfter, InRange, List, arith, get_or, get_or_default, inl, inr, length, length-set, reply, sent}
use Rattle.hingetulip_c.proofs.Words.{submit_of, subst, sym, take, ⊎_elim, ◌<◌, ◌∙◌, ◌∷◌, ◌≡◌}
use Rattle.hingetulip_c.proofs.Many.{sent-more, told-more, others_more, unanswered, is_answered, is_answered_last, answered_once, untold}
use Rattle.hingetulip_c.proofs.exports.submit_many.dn_submit_many.Goals as goal

-- What stands for a packet or a fate beyond the end of a list.
abbrev no_packet : CPacket
no_packet = record { moment = 0; src = 0; dst = 0; word = 0; sport = 0; dport = 0; length = 0; number = 0; kind = 0; proto = 0; reserved = 0 }

abbrev no_fate : CFate
no_fate = record { at = 0; flow = 0; packet = 0; outcome = 0; reserved = 0 }

pub returns-then-status-ne-OK-clause-why : goal.returns-then-status-ne-OK-clause-why
returns-then-status-ne-OK-clause-why c some more room p =
    let status = c.dn_submit-status.result in let inv = c.loop-i.invariant in let packets = c.args.packets.now in let i = c.loop-i.i in
    let packet = get_or_default packets i no_packet p c.loop-i-test.true in
    ⊎_elim
    (λ faulty. inl (subst (λ (q : CPacket). Faulty q status) packet faulty))
    (λ in_range. inr (
      subst (λ (q : CPacket). InRange q) packet in_range.0,
      ⊎_elim
          (λ closed. inl (closed.0, inv.opened closed.1))
          (λ memory. inr (
            memory.0,
            (λ shut. memory.1 (inv.closed shut).0),
            λ rule calls held.
                subst (λ (q : CPacket). CanLackMemory (sent (take i packets) calls) (submit_of q)) packet (memory.2 rule (sent (take i packets) calls) (inv.stands rule calls held)),
          ))
          in_range.1,
    ))
    (c.dn_submit-status.ensures.why (unanswered status some more))

pub returns-then-status-ne-OK-clause-exhausted : goal.returns-then-status-ne-OK-clause-exhausted
returns-then-status-ne-OK-clause-exhausted c one p rule calls held =
    let inv = c.loop-i.invariant in let packets = c.args.packets.now in let i = c.loop-i.i in let before = sent (take i packets) calls in
    let stood = inv.stands rule calls held in let ok = is_answered_last c.dn_submit-status.result one in
    subst (λ (q : CPacket). (Exhausted ≡ reply rule before (submit_of q)) × HeldAfter rule c.dn_submit-status.new.handle.held (submit_of q ∷ before))
    (get_or_default packets i no_packet p c.loop-i-test.true) (
      sym (untold rule before (get_or packets i no_packet) (sym (c.dn_submit-status.ensures.status ok rule before stood) ∙ one)),
      c.dn_submit-status.ensures.stands ok rule before stood,
    )

pub loop-i-preserved : goal.loop-i-preserved
loop-i-preserved c =
    let inv = c.loop-i.invariant in let packets = c.args.packets.now in let i = c.loop-i.i in let within = c.loop-i-test.true in
    let sizes = c.loop-i.auto.fates in let enough = c.if-fates-packets.false in
    let room : i < length c.loop-i.fates = omega arith in
    let zero = c.if-status-ne-OK.false in let ok = is_answered c.dn_submit-status.result zero in
    record {
      stands = λ rule calls held. subst (λ (cs : List Call). HeldAfter rule c.dn_submit-status.new.handle.held cs) (sym (sent-more packets i no_packet calls within))
          (c.dn_submit-status.ensures.stands ok rule (sent (take i packets) calls) (inv.stands rule calls held));
      told = λ rule calls held. let now = inv.stands rule calls held in let before = sent (take i packets) calls in
          told-more rule calls packets c.args.fates.now c.loop-i.fates i c.dn_submit-status.new.fate within room inv.others c.dn_submit-status.result no_packet no_fate zero
          (c.dn_submit-status.ensures.status ok rule before now) (c.dn_submit-status.ensures.fate ok rule before now) (inv.told rule calls held);
      closed = λ shut. answered_once c.dn_submit-status.result ok (c.dn_submit-status.ensures.closed (inv.closed shut).0).0;
      opened = λ shut. inv.opened (c.dn_submit-status.ensures.stays_open shut);
      others = others_more c.args.fates.now c.loop-i.fates i c.dn_submit-status.new.fate inv.others;
      long = length-set c.loop-i.fates i c.dn_submit-status.new.fate ∙ inv.long;
    }

pub returns-clause-fates : goal.returns-clause-fates
returns-clause-fates c rule calls stands place p f less =
    let ended = c.loop-i-test.false in c.loop-i.invariant.told rule calls stands place p f (omega arith)
