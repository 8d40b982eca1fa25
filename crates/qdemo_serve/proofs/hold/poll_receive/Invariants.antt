use Rattle.qdemo_serve.proofs.hold.poll_receive.Given as goal

abbrev pub decreases-polling : goal.decreases-polling
decreases-polling g l = l.polls
