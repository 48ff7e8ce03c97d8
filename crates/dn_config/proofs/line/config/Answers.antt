use Rattle.dn_config.proofs.Vocabulary.{left, ◌∙◌}
use Rattle.dn_config.proofs.Config.{config_ok, config_err}
use Rattle.dn_config.proofs.line.config.Goals as goal

pub returns-in-Ok : goal.returns-in-Ok
returns-in-Ok c = c.configured.ensures ∙ config_ok c.args.kind c.args.at c.args.number c.args.words.position (left c.args.words) c.in-Ok.options c.requires.place c.in-Ok.ensures

pub returns-in-Err : goal.returns-in-Err
returns-in-Err c = config_err c.args.kind c.args.at c.args.number c.args.words.position (left c.args.words) c.in-Err.fault c.requires.place c.in-Err.ensures
