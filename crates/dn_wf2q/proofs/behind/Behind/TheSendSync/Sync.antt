use Rattle.dn_wf2q.proofs.Words.{the_row}
use denote.Param.Send.{IsSend, IsSync, part_keyless}

send : IsSend the_row
send = record { owned = λ d vs. ((λ vss. (tt, tt)), tt); leaving = λ k f vs. tt }

pub sync : IsSync the_row
sync = record { shared = λ d b o κ q. part_keyless the_row send q d b o }
