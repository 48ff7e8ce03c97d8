-- The bytes of the lines that are made from their end: each field stands as it is, with a comma before it.
use Rattle.dn_history.proofs.Words.{AllPlain, Delivery, Fields, IsCall, IsDelivery, IsLong, IsPlain, IsTarget, List, Packet, Submit, Target, [], address_is_plain, address_text, append-nil, arith}
use Rattle.dn_history.proofs.Words.{call_record, codes, decimal, decimal_is_plain, delivery_record, line-is, line_of, plain_end, refl, sym, target_name, target_number, ℕ, ◌++◌, ◌∙◌, ◌∷◌, ◌≡◌}
use Rattle.dn_types.specs.declared.target.Target.TheVariants.{Pipe, Queue}

-- A number of 64 bits, and an address, are written as they are.
number : (n : ℕ) → IsLong n → IsPlain (decimal n)
number n small = decimal_is_plain n (omega arith)

-- The bytes of a line of plain fields.
stands : (first second : List ℕ) (fields : Fields) → IsPlain first → AllPlain (second ∷ fields) → first ++ plain_end (second ∷ fields) (10 ∷ []) ≡ line_of (first ∷ second ∷ fields)
stands first second fields plain more = sym (line-is first second fields [] plain more) ∙ append-nil (line_of (first ∷ second ∷ fields))

target-plain : (target : Target) → IsPlain (target_name target)
target-plain (Pipe number) = refl
target-plain (Queue number) = refl

target-small : (target : Target) → IsTarget target → IsLong (target_number target)
target-small (Pipe number) small = omega (arith, small)
target-small (Queue number) small = omega (arith, small)

-- The line of a Submit.
pub submit_line : (caller : ℕ) (target : Target) (packet : Packet) (moment : ℕ) → IsLong caller → IsCall (Submit target packet moment)
    → codes "c" ++ 44 ∷ (decimal caller ++ 44 ∷ (codes "submit" ++ 44 ∷ (target_name target ++ 44 ∷ (decimal (target_number target)
    ++ 44 ∷ (address_text packet.tuple.src ++ 44 ∷ (address_text packet.tuple.dst ++ 44 ∷ (decimal packet.tuple.proto ++ 44 ∷ (decimal packet.tuple.sport
    ++ 44 ∷ (decimal packet.tuple.dport ++ 44 ∷ (decimal packet.len ++ 44 ∷ (decimal packet.word ++ 44 ∷ (decimal moment ++ 10 ∷ []))))))))))))
    ≡ line_of (call_record caller (Submit target packet moment))
submit_line caller target packet moment c (t, p, m) =
    let tuple : AllPlain (decimal packet.tuple.proto ∷ decimal packet.tuple.sport ∷ decimal packet.tuple.dport ∷ decimal packet.len ∷ decimal packet.word ∷ decimal moment ∷ []) = (
      number packet.tuple.proto (omega (arith, p.tuple.proto)),
      (
        number packet.tuple.sport (omega (arith, p.tuple.sport)),
        (
          number packet.tuple.dport (omega (arith, p.tuple.dport)),
          (number packet.len (omega (arith, p.len)), (number packet.word (omega (arith, p.word)), (number moment (omega (arith, m)), tt))),
        ),
      ),
    ) in
    stands (codes "c") (decimal caller) _ refl (
      number caller c,
      (
        refl,
        (
          target-plain target,
          (
            number (target_number target) (target-small target t),
            (address_is_plain packet.tuple.src p.tuple.src, (address_is_plain packet.tuple.dst p.tuple.dst, tuple)),
          ),
        ),
      ),
    )

-- The line of an accepted packet.
pub queued_line : (at flow packet : ℕ) → IsLong at → IsLong flow → IsLong packet
    → codes "r,queued" ++ 44 ∷ (decimal at ++ 44 ∷ (decimal flow ++ 44 ∷ (decimal packet ++ 10 ∷ [])))
    ≡ line_of (codes "r" ∷ codes "queued" ∷ decimal at ∷ decimal flow ∷ decimal packet ∷ [])
queued_line at flow packet a f p = stands (codes "r") (codes "queued") _ refl (refl, (number at a, (number flow f, (number packet p, tt))))

-- The line of a delivery.
pub delivery_line : (d : Delivery) → IsDelivery d
    → codes "d" ++ 44 ∷ (decimal d.packet ++ 44 ∷ (decimal d.flow ++ 44 ∷ (decimal d.start ++ 44 ∷ (decimal d.due ++ 10 ∷ [])))) ≡ line_of (delivery_record d)
delivery_line d r = stands (codes "d") (decimal d.packet) _ refl (number d.packet r.packet, (number d.flow r.flow, (number d.start r.start, (number d.due r.due, tt))))

-- The line of a call that has a moment alone.
pub moment_line : (caller : ℕ) (name : List ℕ) (moment : ℕ) → IsLong caller → IsPlain name → IsLong moment
    → codes "c" ++ 44 ∷ (decimal caller ++ 44 ∷ (name ++ 44 ∷ (decimal moment ++ 10 ∷ []))) ≡ line_of (codes "c" ∷ decimal caller ∷ name ∷ decimal moment ∷ [])
moment_line caller name moment c plain m = stands (codes "c") (decimal caller) _ refl (number caller c, (plain, (number moment m, tt)))

-- The line of a Show.
pub show_line : (caller : ℕ) → IsLong caller
    → codes "c" ++ 44 ∷ (decimal caller ++ (codes ",show" ++ 10 ∷ [])) ≡ line_of (codes "c" ∷ decimal caller ∷ codes "show" ∷ [])
show_line caller c = stands (codes "c") (decimal caller) _ refl (number caller c, (refl, tt))

-- The line of a reply that is a name alone, and of one that has one or two numbers.
pub name_line : (name : List ℕ) → IsPlain name → codes "r," ++ (name ++ 10 ∷ []) ≡ line_of (codes "r" ∷ name ∷ [])
name_line name plain = stands (codes "r") name _ refl (plain, tt)

pub one_line : (name : List ℕ) (value : ℕ) → IsPlain name → IsLong value
    → codes "r," ++ (name ++ 44 ∷ (decimal value ++ 10 ∷ [])) ≡ line_of (codes "r" ∷ name ∷ decimal value ∷ [])
one_line name value plain v = stands (codes "r") name _ refl (plain, (number value v, tt))

pub two_line : (name : List ℕ) (first second : ℕ) → IsPlain name → IsLong first → IsLong second
    → codes "r," ++ (name ++ 44 ∷ (decimal first ++ 44 ∷ (decimal second ++ 10 ∷ []))) ≡ line_of (codes "r" ∷ name ∷ decimal first ∷ decimal second ∷ [])
two_line name first second plain f s = stands (codes "r") name _ refl (plain, (number first f, (number second s, tt)))
