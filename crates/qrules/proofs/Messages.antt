-- The open Send of a number.
use Rattle.qrules.proofs.Common.{arith, ◌≡◌, ◌⊎◌, ℕ, false, message_in, reply_buffer_in, Send, None, Some}
use Rattle.qrules.proofs.Common.{option_map_or}
use Rattle.qrules.proofs.Words.Facts.{is_held_by, sender_call}
use Rattle.qrules.proofs.Traces.Past.Senders.{sender_sends}
use Rattle.qrules.specs.Facts.{holds, message, open_send, reply_buffer, sender, threads_of, Facts, OpenSend}

-- no Send of number i is open
pub record NoSend (f : Facts) (i : ℕ) : Type 0 where
  pub none : sender f i ≡ None
  pub new : open_send f i ≡ None

-- a Send of number i is open
pub record OneSend (f : Facts) (i : ℕ) : Type 0 where
  pub thread : ℕ
  pub send : OpenSend
  pub number : send.number ≡ i
  pub sent : sender f i ≡ Some thread
  pub is : f.open_call thread ≡ Some (Send send)
  pub new : open_send f i ≡ Some send

pub send_cases : (f : Facts) (i : ℕ) → NoSend f i ⊎ OneSend f i
send_cases f i = grind (arith, sender_sends f.open_call i (threads_of f.roster))

-- ---- the parts of a message that are read, by the open call of its sender

pub held_same : (f : Facts) (t i : ℕ) → holds f t i ≡ option_map_or (is_held_by f t) (sender_call f i) false
held_same f t i = grind arith

pub message_same : (f : Facts) (i : ℕ) → message f i ≡ message_in (sender_call f i)
message_same f i = grind arith

pub reply_buffer_same : (f : Facts) (i : ℕ) → reply_buffer f i ≡ reply_buffer_in (sender_call f i)
reply_buffer_same f i = grind arith
