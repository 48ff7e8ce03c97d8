-- What is in force and the clock keep to the ranges of the calls.
use Rattle.dn_types.proofs.Words.{Advance, All, Bool, Call, Collect, Command, Configure, Configured, DeletePipe, DeleteQueue, Deleted, IsCommandInRange, IsInRange, IsLimitInRange, List, None}
use Rattle.dn_types.proofs.Words.{Option, Pipe, Queue, Reply, Settings, Show, Some, Submit, Target, Treatment, [], arith, command_reply, cond, delay_of, effective_moment, false}
use Rattle.dn_types.proofs.Words.{le-mul_of_pos_right, moment_of, queue_numbers, setting_after, settings, subject, suc, target_eq, transmission_time, treatment, true, zero, ℕ, ⊤, ◌*◌, ◌^◌, ◌∷◌}
use Rattle.dn_types.proofs.Words.{◌≡◌, ◌≤◌}
use Rattle.dn_types.proofs.TransmissionTime.{transmission-is-least}

pub all-first : (c : Call) (calls : List Call) → All IsInRange (c ∷ calls) → IsInRange c
all-first c calls h = h 0 c (omega arith)

pub all-rest : (c : Call) (calls : List Call) → All IsInRange (c ∷ calls) → All IsInRange calls
all-rest c calls h = λ k d below. h (suc k) d (omega arith)

-- ---- The clock

moment-in-range : (c : Call) → IsInRange c → moment_of c ≤ 2 ^ 62
moment-in-range (Configure command) h = omega arith
moment-in-range (Submit target packet moment) h = h.1
moment-in-range (Advance moment) h = h
moment-in-range (Collect moment) h = h
moment-in-range Show h = omega arith

pub clock-in-range : (calls : List Call) → All IsInRange calls → effective_moment calls ≤ 2 ^ 62
clock-in-range [] h = omega arith
clock-in-range (c ∷ calls) h =
    let rest = clock-in-range calls (all-rest c calls h) in
    let first = moment-in-range c (all-first c calls h) in
    omega arith

-- ---- What is in force

abbrev pub IsSettingInRange : Option Command → Type 0
IsSettingInRange None = ⊤
IsSettingInRange (Some command) = IsCommandInRange command

abbrev pub AreInRange : Settings → Type 0
AreInRange set = (target : Target) → IsSettingInRange (set target)

after-in-range : (r : Reply) (command : Command) (before : Option Command) → IsCommandInRange command → IsSettingInRange before → IsSettingInRange (setting_after r command before)
after-in-range Configured command before h g = h
after-in-range Deleted command before h g = tt
after-in-range _ command before h g = g

either-in-range : (b : Bool) (x y : Option Command) → IsSettingInRange x → IsSettingInRange y → IsSettingInRange (cond b x y)
either-in-range true x y h g = h
either-in-range false x y h g = g

pub settings-in-range : (calls : List Call) → All IsInRange calls → AreInRange (settings calls)
settings-in-range [] h = λ target. tt
settings-in-range (Configure command ∷ calls) h = λ target.
    let before = settings-in-range calls (all-rest (Configure command) calls h) target in
    let r = command_reply (settings calls) (queue_numbers calls) command in
    either-in-range (target_eq (subject command) target) (setting_after r command (settings calls target)) (settings calls target)
    (after-in-range r command (settings calls target) (all-first (Configure command) calls h) before) before
settings-in-range (Submit target packet moment ∷ calls) h = settings-in-range calls (all-rest (Submit target packet moment) calls h)
settings-in-range (Advance moment ∷ calls) h = settings-in-range calls (all-rest (Advance moment) calls h)
settings-in-range (Collect moment ∷ calls) h = settings-in-range calls (all-rest (Collect moment) calls h)
settings-in-range (Show ∷ calls) h = settings-in-range calls (all-rest Show calls h)

abbrev pub IsTreatmentInRange : Option Treatment → Type 0
IsTreatmentInRange None = ⊤
IsTreatmentInRange (Some how) = IsLimitInRange how.limit

pub treatment-in-range : (o : Option Command) → IsSettingInRange o → IsTreatmentInRange (treatment o)
treatment-in-range None h = tt
treatment-in-range (Some (Pipe number bw delay limit loss buckets mask)) h = h.1
treatment-in-range (Some (Queue number pipe weight limit loss buckets mask)) h = h
treatment-in-range (Some (DeletePipe number)) h = tt
treatment-in-range (Some (DeleteQueue number)) h = tt

-- ---- How long a packet takes

pub delay-in-range : (o : Option Command) → IsSettingInRange o → delay_of o ≤ 3600000000000
delay-in-range None h = omega arith
delay-in-range (Some (Pipe number bw delay limit loss buckets mask)) h = let most = h.0 in omega arith
delay-in-range (Some _) h = omega arith

pub transmission-in-range : (bandwidth len : ℕ) → len ≤ 65535 → transmission_time bandwidth len ≤ 524280000000000
transmission-in-range zero len h = omega arith
transmission-in-range (suc b) len h =
    let bits : len * 8 * 10 ^ 9 ≡ len * 8000000000 = omega arith in
    let fits : len * 8 * 10 ^ 9 ≤ len * 8 * 10 ^ 9 * suc b = le-mul_of_pos_right (len * 8 * 10 ^ 9) (omega arith) in
    let short = (transmission-is-least (suc b) len (omega arith)).1 (len * 8 * 10 ^ 9) fits in
    omega (arith, bits, short, h)
