-- How long a packet waits at most, by the limit of its queue.
use Rattle.dn_laws.proofs.Words.{All, KbytesBoundTheWait, List, Option, SlotsBoundTheWait, [], add-mul, ap, arith, get_or, leb_tells, length, length-map, map, mul-le-mul_right, refl, subst, suc}
use Rattle.dn_laws.proofs.Words.{sum, sum-map, sum_by, sum_by-cons, sum_by-le, sym, transmission-is-least, zero, ℕ, ⊎_elim, ◌%◌, ◌*◌, ◌+◌, ◌-◌, ◌<◌, ◌^◌, ◌∙◌, ◌∷◌, ◌≡◌, ◌≤◌}
use Rattle.dn_laws.proofs.LawWords.{IsAtLimit, IsExplained, transmission_time, StaysInForce, reply, Accepted, ahead, Call, Submit, Pipe, Limit, Slots, Kbytes, Mask, Packet, Reply, Queued, Exhausted}
use Rattle.dn_laws.proofs.LawWords.{Rule, ToPipe}
use Rattle.dn_laws.proofs.DropLaws.{drops-are-explained}
use Rattle.dn_laws.proofs.ToldCounts.{told-few}
use Rattle.dn_laws.proofs.Waits.{at-first, wait-is-known}

pub longer-takes-longer : (bw a b : ℕ) → a ≤ b → transmission_time bw a ≤ transmission_time bw b
longer-takes-longer zero a b le = omega arith
longer-takes-longer (suc bw) a b le =
    let long = (transmission-is-least (suc bw) b (omega arith)).0 in
    (transmission-is-least (suc bw) a (omega arith)).1 (transmission_time (suc bw) b) (omega (arith, long, le))

-- What carries less than the bits takes less time.
too-short : (bw len t : ℕ) → 0 < bw → t < transmission_time bw len → t * bw < len * 8 * 10 ^ 9
too-short bw len t some less =
    ⊎_elim (λ enough. let least = (transmission-is-least bw len some).1 t enough.1 in absurd (omega (arith, least, less))) (λ short. let is = short.1 in omega (arith, is))
    (leb_tells (len * 8 * 10 ^ 9) (t * bw))

-- Two packets take a nanosecond more at most than one of their bytes.
pub two-in-one : (bw a b : ℕ) → transmission_time bw a + transmission_time bw b ≤ transmission_time bw (a + b) + 1
two-in-one zero a b = omega arith
two-in-one (suc bw) a b = by (transmission_time (suc bw) a) refl (transmission_time (suc bw) b) refl
  where
    by : (x : ℕ) → transmission_time (suc bw) a ≡ x → (y : ℕ) → transmission_time (suc bw) b ≡ y → transmission_time (suc bw) a + transmission_time (suc bw) b ≤ transmission_time (suc bw) (a + b) + 1
    by zero e y f = let more = longer-takes-longer (suc bw) b (a + b) (omega arith) in omega (arith, e, more)
    by (suc x) e zero f = let more = longer-takes-longer (suc bw) a (a + b) (omega arith) in omega (arith, f, more)
    by (suc x) e (suc y) f =
        let low = too-short (suc bw) a x (omega arith) (omega (arith, e)) in
        let high = too-short (suc bw) b y (omega arith) (omega (arith, f)) in
        let both = (transmission-is-least (suc bw) (a + b) (omega arith)).0 in
        ⊎_elim (λ few. let le = few.1 in
        let wide = mul-le-mul_right (suc bw) le in
        let parts = add-mul x y (suc bw) in
        absurd (omega (arith, wide, parts, low, high, both))) (λ more. let is = more.1 in omega (arith, is, e, f)) (leb_tells (transmission_time (suc bw) (a + b)) (x + y))

-- Packets take a nanosecond more at most for each than all their bytes in one.
pub all-in-one : (bw : ℕ) (q : List Accepted) → sum_by (λ p. transmission_time bw p.stamped.len) q ≤ transmission_time bw (sum_by (λ p. p.stamped.len) q) + length q
all-in-one bw [] = omega arith
all-in-one bw (p ∷ q) =
    let rest = all-in-one bw q in
    let time = sum_by-cons (λ (x : Accepted). transmission_time bw x.stamped.len) p q in
    let bytes = ap {B = ℕ} (λ n. transmission_time bw n) (sum_by-cons (λ (x : Accepted). x.stamped.len) p q) in
    let two = two-in-one bw p.stamped.len (sum_by (λ x. x.stamped.len) q) in
    omega (arith, rest, time, bytes, two)

-- An accepted packet found its queue below the limit.
pub below-its-limit : (rule : Rule) (calls : List Call) (pipe bw delay : ℕ) (limit : Limit) (loss : ℕ) (buckets : Option ℕ) (mask : Mask) (packet : Packet) (moment at flow number : ℕ) →
    (in_force : StaysInForce (ToPipe pipe) (Pipe pipe bw delay limit loss buckets mask) [] calls) → reply rule calls (Submit (ToPipe pipe) packet moment) ≡ Queued at flow number →
    IsAtLimit limit (map (λ p. p.stamped.len) (ahead pipe flow moment calls)) → ⊥
below-its-limit rule calls pipe bw delay limit loss buckets mask packet moment at flow number in_force told =
    let few = told-few rule calls (Submit (ToPipe pipe) packet moment) (λ none. let t : Exhausted ≡ Queued at flow number = sym none ∙ told in cc) in
    let explained = drops-are-explained rule calls (ToPipe pipe) packet moment (Pipe pipe bw delay limit loss buckets mask) loss limit pipe few in_force (refl, refl, refl) in
    (subst (λ (r : Reply). IsExplained loss limit (packet.word % 2 ^ 31) (λ f. map (λ p. p.stamped.len) (ahead pipe f moment calls)) r) told explained).1

-- The time that those ahead take to send.
abbrev pub time_ahead : ℕ → ℕ → ℕ → ℕ → List Call → ℕ
time_ahead bw pipe flow moment calls = sum (map (λ p. transmission_time bw p.stamped.len) (ahead pipe flow moment calls))

pub slots-ahead : (rule : Rule) (calls : List Call) (pipe bw delay slots loss : ℕ) (buckets : Option ℕ) (mask : Mask) (packet : Packet) (moment at flow number most : ℕ) →
    StaysInForce (ToPipe pipe) (Pipe pipe bw delay (Slots slots) loss buckets mask) [] calls → reply rule calls (Submit (ToPipe pipe) packet moment) ≡ Queued at flow number →
    All (λ p. p.stamped.len ≤ most) (ahead pipe flow moment calls) → (0 < slots) × (time_ahead bw pipe flow moment calls ≤ (slots - 1) * transmission_time bw most)
slots-ahead rule calls pipe bw delay slots loss buckets mask packet moment at flow number most in_force told short =
    let below = below-its-limit rule calls pipe bw delay (Slots slots) loss buckets mask packet moment at flow number in_force told in
    let count = length-map (ahead pipe flow moment calls) (λ (p : Accepted). p.stamped.len) in
    let few : length (ahead pipe flow moment calls) < slots = ⊎_elim (λ full. absurd (below (let f = full.1 in omega (arith, f, count)))) (λ room. room.1)
    (leb_tells slots (length (ahead pipe flow moment calls))) in
    let each = sum_by-le (λ (p : Accepted). transmission_time bw p.stamped.len) (transmission_time bw most) (ahead pipe flow moment calls)
    (λ k x lt. longer-takes-longer bw (get_or (ahead pipe flow moment calls) k x).stamped.len most (short k x lt)) in
    let wide : length (ahead pipe flow moment calls) * transmission_time bw most ≤ (slots - 1) * transmission_time bw most = mul-le-mul_right (transmission_time bw most) (omega (arith, few)) in
    let as_sum = sum-map (λ (p : Accepted). transmission_time bw p.stamped.len) (ahead pipe flow moment calls) in
    (omega (arith, few), omega (arith, each, wide, as_sum))

pub kbytes-ahead : (rule : Rule) (calls : List Call) (pipe bw delay kbytes loss : ℕ) (buckets : Option ℕ) (mask : Mask) (packet : Packet) (moment at flow number : ℕ) →
    StaysInForce (ToPipe pipe) (Pipe pipe bw delay (Kbytes kbytes) loss buckets mask) [] calls → reply rule calls (Submit (ToPipe pipe) packet moment) ≡ Queued at flow number →
    time_ahead bw pipe flow moment calls ≤ transmission_time bw (kbytes * 1024) + length (ahead pipe flow moment calls)
kbytes-ahead rule calls pipe bw delay kbytes loss buckets mask packet moment at flow number in_force told =
    let below = below-its-limit rule calls pipe bw delay (Kbytes kbytes) loss buckets mask packet moment at flow number in_force told in
    let bytes = sum-map (λ (p : Accepted). p.stamped.len) (ahead pipe flow moment calls) in
    let few : sum (map (λ p. p.stamped.len) (ahead pipe flow moment calls)) ≤ kbytes * 1024 = ⊎_elim (λ room. room.1) (λ full. absurd (below full.1))
    (leb_tells (sum (map (λ p. p.stamped.len) (ahead pipe flow moment calls))) (kbytes * 1024)) in
    let one = all-in-one bw (ahead pipe flow moment calls) in
    let longer = longer-takes-longer bw (sum_by (λ p. p.stamped.len) (ahead pipe flow moment calls)) (kbytes * 1024) (omega (arith, bytes, few)) in
    let as_sum = sum-map (λ (p : Accepted). transmission_time bw p.stamped.len) (ahead pipe flow moment calls) in
    omega (arith, one, longer, as_sum)

pub slots-bound-the-wait : SlotsBoundTheWait
slots-bound-the-wait rule after calls pipe bw delay slots loss buckets mask packet moment at flow number most later earlier s stays told e same short =
    let start = wait-is-known rule after calls pipe bw delay (Slots slots) loss buckets mask packet moment at flow number later earlier s stays told e same in
    let first = at-first (ToPipe pipe) (Pipe pipe bw delay (Slots slots) loss buckets mask) after calls packet moment (ToPipe pipe) stays in
    let most_ahead = (slots-ahead rule calls pipe bw delay slots loss buckets mask packet moment at flow number most first told short).1 in
    omega (arith, start, most_ahead)

pub kbytes-bound-the-wait : KbytesBoundTheWait
kbytes-bound-the-wait rule after calls pipe bw delay kbytes loss buckets mask packet moment at flow number later earlier s stays told e same =
    let start = wait-is-known rule after calls pipe bw delay (Kbytes kbytes) loss buckets mask packet moment at flow number later earlier s stays told e same in
    let first = at-first (ToPipe pipe) (Pipe pipe bw delay (Kbytes kbytes) loss buckets mask) after calls packet moment (ToPipe pipe) stays in
    let most_ahead = kbytes-ahead rule calls pipe bw delay kbytes loss buckets mask packet moment at flow number first told in
    omega (arith, start, most_ahead)
