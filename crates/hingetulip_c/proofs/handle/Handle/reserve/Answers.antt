-- The room is in the shaper that is put back.
use Rattle.hingetulip_c.proofs.Words.{HoldsRoomFor, List, State, Submit, [], ap, subst, sym, ◌∙◌, ◌∷◌}
use Rattle.hingetulip_c.proofs.handle.Handle.reserve.Goals as goal

pub returns-in-Ok-clause-room : goal.returns-in-Ok-clause-room
returns-in-Ok-clause-room c is moment =
    subst (λ (l : List State). HoldsRoomFor (Submit c.args.target c.args.packet.now moment) l) (sym c.put-none.ensures) (c.in-Ok.ensures.room is moment)

pub returns-clause-succeeds : goal.returns-clause-succeeds
returns-clause-succeeds c moment room =
    let here = c.in-Some.ensures.taken ∙ ap (λ (s : State). s ∷ []) (sym c.deref_mut.ensures.value) in
    c.in-Err.ensures.succeeds moment (subst (λ (l : List State). HoldsRoomFor (Submit c.args.target c.args.packet.now moment) l) here room)
