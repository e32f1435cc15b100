-- The line is the word, the station and the hops made.
-- Assumes nothing.
use Rattle.forwarding_rules.specs.Calls.{packet_in}
use Rattle.console_held.specs.Requests.{packet_line}
use Rattle.console_replies.proofs.unchecked.putting.put_packet.Goals as goal

pub returns : goal.returns
unfolding packet_line packet_in
returns c = rw c.into.ensures at c.put_word_line.ensures
