-- The file of a history of one caller, and that of an empty one, computed from the definition.
use Rattle.dn_history.proofs.Words.{Delivery, Entry, FiveTuple, FlowKey, FlowStatus, List, None, Packet, Slots, [], codes, escaped, fields_text, history_text, is_blank, link_words, no_bits, refl}
use Rattle.dn_history.proofs.Words.{text, text_of, text_words, ℕ, ◌∷◌, ◌≡◌}
use Rattle.std.specs.Fmt.{digits}
use Rattle.dn_types.specs.declared.call.Call.TheVariants as c
use Rattle.dn_types.specs.declared.command.Command.TheVariants as command
use Rattle.dn_types.specs.declared.reply.Reply.TheVariants as r
use Rattle.dn_types.specs.declared.target.Target.TheVariants.{Pipe}

-- from 10.0.0.1 to 10.0.0.2, by UDP
abbrev pub tuple : FiveTuple
tuple = record { src = 167772161; dst = 167772162; proto = 17; sport = 1000; dport = 2000 }

abbrev pub no_tuple : FiveTuple
no_tuple = record { src = 0; dst = 0; proto = 0; sport = 0; dport = 0 }

abbrev pub packet : Packet
packet = record { tuple = tuple; len = 1000; word = 0 }

abbrev pub delivery : Delivery
delivery = record { due = 1000000; packet = 0; flow = 0; start = 0 }

abbrev pub key : FlowKey
key = record { target = Pipe 1; pipe = 1; mask = no_bits; tuple = no_tuple }

abbrev pub status : FlowStatus
status = record { flow = 0; key = key; queued = 0; bytes = 0; lost = 0; full = 0; started = 1; discarded = 0 }

abbrev pub configured : Entry
configured = record { caller = 0; call = c.Configure (command.Pipe 1 8000000 0 (Slots 50) 0 None no_bits); reply = r.Configured }

abbrev pub queued : Entry
queued = record { caller = 0; call = c.Submit (Pipe 1) packet 0; reply = r.Queued 0 0 0 }

abbrev pub delivered : Entry
delivered = record { caller = 0; call = c.Collect 1000000; reply = r.Delivered 1000000 (delivery ∷ []) }

abbrev pub shown : Entry
shown = record { caller = 0; call = c.Show; reply = r.Status (status ∷ []) }

-- the history of one caller, and its file
abbrev pub four : List Entry
four = configured ∷ queued ∷ delivered ∷ shown ∷ []

abbrev pub file_of_four : List ℕ
file_of_four = codes "dummynet-history,3\nc,0,configure,pipe 1 config bw 8000000bit/s\nr,configured\nc,0,submit,pipe,1,10.0.0.1,10.0.0.2,17,1000,2000,1000,0,0\nr,queued,0,0,0\nc,0,collect,1000000\nr,delivered,1000000,1\nd,0,0,0,1000000\nc,0,show\nr,status,1\nf,0,pipe,1,1,0.0.0.0,0.0.0.0,0,0,0,0.0.0.0,0.0.0.0,0,0,0,0,0,0,0,1,0\nend,4\n"

pub one_caller : history_text four ≡ file_of_four
unfolding history_text text_of fields_text is_blank escaped text text_words link_words digits
one_caller = refl

empty : history_text [] ≡ codes "dummynet-history,3\nend,0\n"
unfolding history_text text_of fields_text is_blank escaped digits
empty = refl
