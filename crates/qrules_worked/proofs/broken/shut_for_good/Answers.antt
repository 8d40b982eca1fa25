use Rattle.std.proofs.Common.{refl}
use Rattle.qrules_worked.proofs.broken.shut_for_good.Goals as goal

pub returns-clause-received : goal.returns-clause-received
returns-clause-received c = λ p. (p.1 1 refl).none_received.0 4 refl refl

pub returns-clause-send_left : goal.returns-clause-send_left
returns-clause-send_left c = λ p. (p.1 1 refl).no_send 43 _ refl refl

pub returns-clause-held_left : goal.returns-clause-held_left
returns-clause-held_left c = λ p. (p.1 1 refl).no_send 43 _ refl refl

pub returns-clause-receiver_left : goal.returns-clause-receiver_left
returns-clause-receiver_left c = λ p. (p.1 1 refl).no_receive 35 _ refl refl

pub returns-clause-detached_left : goal.returns-clause-detached_left
returns-clause-detached_left c = λ p. (p.1 1 refl).no_send 43 _ refl refl
