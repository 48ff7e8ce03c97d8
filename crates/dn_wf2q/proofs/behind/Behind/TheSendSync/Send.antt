use Rattle.dn_wf2q.proofs.Words.{the_row}
use denote.Param.Send.{IsSend}

pub send : IsSend the_row
send = record { owned = λ d vs. ((λ vss. (tt, tt)), tt); leaving = λ k f vs. tt }
