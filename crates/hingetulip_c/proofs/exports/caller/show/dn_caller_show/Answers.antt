-- The status and the count are those of a Show.
use Rattle.hingetulip_c.proofs.Words.{◌∙◌}
use Rattle.hingetulip_c.proofs.Listing.{shows}
use Rattle.hingetulip_c.proofs.exports.caller.show.dn_caller_show.Goals as goal

pub returns-clause-status : goal.returns-clause-status
returns-clause-status c ok =
    let made = c.call_for_list.ensures in made.status ok ∙ (shows c.args.caller.now.held c.call_for_list.new.caller.held (made.answered ok)).status_is

pub returns-clause-count : goal.returns-clause-count
returns-clause-count c ok =
    let made = c.call_for_list.ensures in made.count ok ∙ (shows c.args.caller.now.held c.call_for_list.new.caller.held (made.answered ok)).count_is c.args.count.now
