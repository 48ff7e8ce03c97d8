-- The flow is known and has room, or it is new and has a home. Where memory is refused only room was made.
use Rattle.dn_shaper.proofs.Words.{AgreesWith, HoldsPlaces, KeepsPlaces, LinkView, List, OnlyMakesRoom, Table, [], ap, arith, common_steps, flow_number, length, link_names, queue_lengths}
use Rattle.dn_shaper.proofs.Words.{slice_get, subst, sym, views_of, ◌<◌, ◌∙◌, ◌≤◌}
use Rattle.dn_shaper.proofs.Alone.{all-seen-same}
use Rattle.dn_shaper.proofs.Given.{given-leaves, given-ready, given-prepares, given-sound}
use Rattle.dn_shaper.proofs.Indexed.{noted-found}
use Rattle.dn_shaper.proofs.Preparing.{IsOneMore, known-reserves, known-table, lengths-more, new-table, last-placeless, parts-sound, reserves-sound, reserves-prepares, table-ready, with_table, without-new}
use Rattle.dn_shaper.proofs.Reserved.{reserves-ready}
use Rattle.dn_shaper.proofs.Sending.{goes-there}
use Rattle.dn_shaper.proofs.Sharing.{on-err}
use Rattle.dn_shaper.proofs.room.prepare.prepare.Goals.{After-reserve_known, In_ok-flow}
use Rattle.dn_shaper.proofs.room.prepare.prepare.Goals as goal

-- A flow below the count of flows is known, and one that isn't below is one more.
is-known : (c : In_ok-flow) → c.in_ok-flow.flow < c.len-known.result → flow_number c.args.state.now.parts.flows.keys c.args.key < length c.args.state.now.parts.flows.keys
is-known c below = omega (arith, c.in_ok-flow.ensures.number, c.len-known.ensures.keys)

one-more : (c : In_ok-flow) → c.len-known.result ≤ c.in_ok-flow.flow → IsOneMore c.args.key c.args.state.now.parts.flows c.find_or_make.new.self
one-more c past =
    new-table c.args.state.now.parts.flows c.find_or_make.new.self c.args.key (omega (arith, c.in_ok-flow.ensures.number, c.len-known.ensures.keys))
    c.in_ok-flow.ensures.keys c.in_ok-flow.ensures.flows

-- ---- A known flow leaves the table as it is

pub reserve_known-requires-clause-agrees : goal.reserve_known-requires-clause-agrees
reserve_known-requires-clause-agrees c =
    let below = is-known (goal.at.reserve_known-requires-clause-agrees c).In_ok-flow c.if-flow-known.true in
    let same = known-table c.args.state.now.parts.flows c.find_or_make.new.self c.args.key below c.find_or_make.ensures.known in
    let seen = c.requires.seen in
    ([], seen.0, subst (λ (t : Table). AgreesWith (with_table c.args.state.now.parts t) [] seen.0) (sym same) seen.1)

-- What is room beside the table is room.
room : (c : After-reserve_known) → flow_number c.args.state.now.parts.flows.keys c.args.key < length c.args.state.now.parts.flows.keys
    → OnlyMakesRoom c.args.state.now.parts c.reserve_known.new.parts
room c below =
    known-reserves c.args.state.now.parts c.reserve_known.new.parts c.find_or_make.new.self c.args.key below c.find_or_make.ensures.known c.reserve_known.ensures.only

pub returns-in_err-reserve_known-clause-err : goal.returns-in_err-reserve_known-clause-err
returns-in_err-reserve_known-clause-err c =
    let w = goal.at.returns-in_err-reserve_known-clause-err c in
    on-err c.from_residual-in_err-reserve_known.result (room w.After-reserve_known (is-known w.In_ok-flow c.if-flow-known.true))

-- Its places are kept, as they were before it was looked for.
placed : (c : After-reserve_known) → flow_number c.args.state.now.parts.flows.keys c.args.key < length c.args.state.now.parts.flows.keys
    → KeepsPlaces c.args.state.now.parts.flows.flows c.reserve_known.new.parts.flows.flows
placed c below =
    let same = known-table c.args.state.now.parts.flows c.find_or_make.new.self c.args.key below c.find_or_make.ensures.known in
    subst (λ (t : Table). KeepsPlaces t.flows c.reserve_known.new.parts.flows.flows) same c.reserve_known.ensures.placed

pub returns-in_err-reserve_known-clause-leaves : goal.returns-in_err-reserve_known-clause-leaves
returns-in_err-reserve_known-clause-leaves c =
    let w = goal.at.returns-in_err-reserve_known-clause-leaves c in
    let below = is-known w.In_ok-flow c.if-flow-known.true in
    reserves-ready c.args.state.now.parts c.reserve_known.new.parts (room w.After-reserve_known below) (placed w.After-reserve_known below)

pub returns-in_ok-reserve_known-clause-leaves : goal.returns-in_ok-reserve_known-clause-leaves
returns-in_ok-reserve_known-clause-leaves c =
    let w = goal.at.returns-in_ok-reserve_known-clause-leaves c in
    let below = is-known w.In_ok-flow c.if-flow-known.true in
    reserves-ready c.args.state.now.parts c.reserve_known.new.parts (room w.After-reserve_known below) (placed w.After-reserve_known below)

pub returns-in_err-flow-clause-leaves : goal.returns-in_err-flow-clause-leaves
returns-in_err-flow-clause-leaves c = table-ready c.args.state.now.parts c.find_or_make.new.self c.in_err-flow.ensures.err.1

pub reserve_known-requires-clause-holds : goal.reserve_known-requires-clause-holds
reserve_known-requires-clause-holds c =
    let below = is-known (goal.at.reserve_known-requires-clause-holds c).In_ok-flow c.if-flow-known.true in
    let same = known-table c.args.state.now.parts.flows c.find_or_make.new.self c.args.key below c.find_or_make.ensures.known in
    subst (λ (t : Table). HoldsPlaces (with_table c.args.state.now.parts t)) (sym same) c.requires.sound.within.room

pub returns-in_err-reserve_known-clause-sound : goal.returns-in_err-reserve_known-clause-sound
returns-in_err-reserve_known-clause-sound c =
    let w = goal.at.returns-in_err-reserve_known-clause-sound c in
    parts-sound c.args.state.now c.reserve_known.new.parts (room w.After-reserve_known (is-known w.In_ok-flow c.if-flow-known.true))
    (placed w.After-reserve_known (is-known w.In_ok-flow c.if-flow-known.true)) c.requires.sound

pub returns-in_ok-reserve_known-clause-prepares : goal.returns-in_ok-reserve_known-clause-prepares
returns-in_ok-reserve_known-clause-prepares c =
    let w = goal.at.returns-in_ok-reserve_known-clause-prepares c in
    let below = is-known w.In_ok-flow c.if-flow-known.true in
    let number = c.in_ok-flow.ensures.number in
    reserves-prepares c.args.state.now.parts c.reserve_known.new.parts c.in_ok-flow.flow (room w.After-reserve_known below) (omega arith)

pub returns-in_ok-reserve_known-clause-sound : goal.returns-in_ok-reserve_known-clause-sound
returns-in_ok-reserve_known-clause-sound c =
    let w = goal.at.returns-in_ok-reserve_known-clause-sound c in
    parts-sound c.args.state.now c.reserve_known.new.parts (room w.After-reserve_known (is-known w.In_ok-flow c.if-flow-known.true))
    (placed w.After-reserve_known (is-known w.In_ok-flow c.if-flow-known.true)) c.requires.sound

-- ---- A new flow is the last of the table

pub returns-in_err-house_last-clause-sound : goal.returns-in_err-house_last-clause-sound
returns-in_err-house_last-clause-sound c =
    let one = one-more (goal.at.returns-in_err-house_last-clause-sound c).In_ok-flow c.if-flow-known.false in
    reserves-sound c.args.state.now c.house_last.new.state
    (without-new c.args.state.now c.find_or_make.new.self c.args.key one c.house_last.new.state c.in_err-house_last.ensures.err) c.requires.sound

pub returns-in_err-house_last-clause-leaves : goal.returns-in_err-house_last-clause-leaves
returns-in_err-house_last-clause-leaves c =
    let one = one-more (goal.at.returns-in_err-house_last-clause-leaves c).In_ok-flow c.if-flow-known.false in
    let only = without-new c.args.state.now c.find_or_make.new.self c.args.key one c.house_last.new.state c.in_err-house_last.ensures.err in
    reserves-ready c.args.state.now.parts c.house_last.new.state.parts only.parts only.placed

pub returns-in_ok-house_last-clause-leaves : goal.returns-in_ok-house_last-clause-leaves
returns-in_ok-house_last-clause-leaves c =
    let one = one-more (goal.at.returns-in_ok-house_last-clause-leaves c).In_ok-flow c.if-flow-known.false in
    given-leaves c.house_last.new.state c.requires.sound one c.requires.seen.1 c.in_ok-flow.flow (c.in_ok-flow.ensures.number ∙ one.number) c.in_ok-house_last.ensures.gives

pub returns-in_ok-house_last-clause-ready : goal.returns-in_ok-house_last-clause-ready
returns-in_ok-house_last-clause-ready c =
    let one = one-more (goal.at.returns-in_ok-house_last-clause-ready c).In_ok-flow c.if-flow-known.false in
    given-ready c.house_last.new.state c.requires.sound one c.requires.seen.1 c.in_ok-flow.flow (c.in_ok-flow.ensures.number ∙ one.number) c.in_ok-house_last.ensures.gives

pub returns-in_ok-house_last-clause-prepares : goal.returns-in_ok-house_last-clause-prepares
returns-in_ok-house_last-clause-prepares c =
    let one = one-more (goal.at.returns-in_ok-house_last-clause-prepares c).In_ok-flow c.if-flow-known.false in
    given-prepares c.house_last.new.state c.requires.sound one c.requires.seen.1 c.in_ok-flow.flow (c.in_ok-flow.ensures.number ∙ one.number) c.in_ok-house_last.ensures.gives

pub returns-in_ok-house_last-clause-sound : goal.returns-in_ok-house_last-clause-sound
returns-in_ok-house_last-clause-sound c =
    let one = one-more (goal.at.returns-in_ok-house_last-clause-sound c).In_ok-flow c.if-flow-known.false in
    given-sound c.house_last.new.state c.requires.sound one c.requires.seen.1 c.in_ok-flow.flow (c.in_ok-flow.ensures.number ∙ one.number) c.in_ok-house_last.ensures.gives

-- ---- The flow is at home where the packet goes

pub reserve_known-requires-clause-goes : goal.reserve_known-requires-clause-goes
reserve_known-requires-clause-goes c = goes-there c.args.key c.args.state.now.parts.flows.keys c.find_or_make.new.self.keys c.in_ok-flow.flow c.in_ok-flow.ensures.keys c.in_ok-flow.ensures.number

pub returns-in_ok-reserve_known-clause-goes : goal.returns-in_ok-reserve_known-clause-goes
returns-in_ok-reserve_known-clause-goes c = goes-there c.args.key c.args.state.now.parts.flows.keys c.reserve_known.new.parts.flows.keys c.in_ok-flow.flow
    (c.reserve_known.ensures.only.keys ∙ c.in_ok-flow.ensures.keys) c.in_ok-flow.ensures.number

pub returns-in_ok-house_last-clause-goes : goal.returns-in_ok-house_last-clause-goes
returns-in_ok-house_last-clause-goes c = goes-there c.args.key c.args.state.now.parts.flows.keys c.house_last.new.state.parts.flows.keys c.in_ok-flow.flow
    (c.in_ok-house_last.ensures.gives.keys ∙ c.in_ok-flow.ensures.keys) c.in_ok-flow.ensures.number

-- The links are named as they were before the flow was made.
pub house_last-requires-clause-noted : goal.house_last-requires-clause-noted
house_last-requires-clause-noted c place there =
    let old = c.args.state.now.parts in
    let one = one-more (goal.at.house_last-requires-clause-noted c).In_ok-flow c.if-flow-known.false in
    ap (λ (vs : List LinkView). slice_get (link_names vs) place)
    (all-seen-same old.links.items (queue_lengths old.flows.flows) (queue_lengths c.find_or_make.new.self.flows) (lengths-more c.args.key old.flows c.find_or_make.new.self one))
    ∙ (noted-found c.args.state.now (link_names (views_of old)) c.requires.sound.indexed c.args.key.target c.in_ok-flow.flow c.args.key.pipe place there).0

-- ---- What the counts of keys and flows give

pub house_last-requires-clause-placeless : goal.house_last-requires-clause-placeless
house_last-requires-clause-placeless c =
    let one = one-more (goal.at.house_last-requires-clause-placeless c).In_ok-flow c.if-flow-known.false in
    last-placeless c.args.state.now.parts.flows.flows c.find_or_make.new.self.flows one.flows

pub reserve_known-requires-clause-within : goal.reserve_known-requires-clause-within
reserve_known-requires-clause-within c = grind (arith, common_steps)

pub house_last-requires-clause-last : goal.house_last-requires-clause-last
house_last-requires-clause-last c = grind (arith, common_steps)

pub house_last-requires-clause-unused : goal.house_last-requires-clause-unused
house_last-requires-clause-unused c = grind (arith, common_steps)

pub returns-in_err-house_last-clause-err : goal.returns-in_err-house_last-clause-err
returns-in_err-house_last-clause-err c = grind (arith, common_steps)

pub returns-in_ok-reserve_known-clause-within : goal.returns-in_ok-reserve_known-clause-within
returns-in_ok-reserve_known-clause-within c = grind (arith, common_steps)

pub returns-in_ok-house_last-clause-within : goal.returns-in_ok-house_last-clause-within
returns-in_ok-house_last-clause-within c = grind (arith, common_steps)
