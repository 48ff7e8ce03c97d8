use Rattle.dn_history.proofs.write.replies.write_reply.Goals as goal

pub returns-in-Configured : goal.returns-in-Configured
returns-in-Configured c = rw c.in-Configured.is c.write_name.ensures

pub returns-in-NoSuchPipe : goal.returns-in-NoSuchPipe
returns-in-NoSuchPipe c = rw c.in-NoSuchPipe.is c.write_name-in-NoSuchPipe.ensures

pub returns-in-PipeHasQueues : goal.returns-in-PipeHasQueues
returns-in-PipeHasQueues c = rw c.in-PipeHasQueues.is c.write_name-in-PipeHasQueues.ensures
