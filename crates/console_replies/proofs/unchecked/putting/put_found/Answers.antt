-- Each fate has its word.
-- Assumes nothing.
use Rattle.console_held.specs.Requests.{set_word, delivered_word, moved_word, dropped_word}
use Rattle.console_held.specs.Inner.{fate_word}
use Rattle.console_replies.proofs.unchecked.putting.put_found.Goals as goal

pub returns-in-Set : goal.returns-in-Set
unfolding fate_word set_word
returns-in-Set c = rw c.in-Set.is c.put_packet.ensures

pub returns-in-Delivered : goal.returns-in-Delivered
unfolding fate_word delivered_word
returns-in-Delivered c = rw c.in-Delivered.is c.put_packet-in-Delivered.ensures

pub returns-in-Moved : goal.returns-in-Moved
unfolding fate_word moved_word
returns-in-Moved c = rw c.in-Moved.is c.put_packet-in-Moved.ensures

pub returns-in-Dropped : goal.returns-in-Dropped
unfolding fate_word dropped_word
returns-in-Dropped c = rw c.in-Dropped.is c.put_packet-in-Dropped.ensures
