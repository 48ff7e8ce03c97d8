use Rattle.dn_laws.proofs.ReservationLawsHold.{changes-have-room, only-makers-lack-memory, room-stays}
use Rattle.dn_laws.proofs.reservations.laws_of_reservations.Goals as goal

pub returns-clause-memory : goal.returns-clause-memory
returns-clause-memory c = only-makers-lack-memory

pub returns-clause-room : goal.returns-clause-room
returns-clause-room c = changes-have-room

pub returns-clause-stays : goal.returns-clause-stays
returns-clause-stays c = room-stays
