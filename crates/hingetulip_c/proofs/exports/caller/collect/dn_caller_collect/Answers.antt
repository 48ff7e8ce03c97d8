-- The status and the count are those of a Collect.
use Rattle.hingetulip_c.proofs.Words.{◌∙◌}
use Rattle.hingetulip_c.proofs.Listing.{collects}
use Rattle.hingetulip_c.proofs.exports.caller.collect.dn_caller_collect.Goals as goal

pub returns-clause-status : goal.returns-clause-status
returns-clause-status c ok =
    let made = c.call_for_list.ensures in
    made.status ok ∙ (collects c.in-Some.moment c.args.caller.now.held c.call_for_list.new.caller.held (made.answered ok)).status_is

pub returns-clause-count : goal.returns-clause-count
returns-clause-count c ok =
    let made = c.call_for_list.ensures in
    made.count ok ∙ (collects c.in-Some.moment c.args.caller.now.held c.call_for_list.new.caller.held (made.answered ok)).count_is c.args.count.now
