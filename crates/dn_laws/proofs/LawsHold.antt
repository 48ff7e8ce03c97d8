-- The definitions obey the laws, and whatever obeys them answers as the definitions do.
use Rattle.dn_laws.proofs.Words.{FalseByTheLaws, IsLawfulAfter, IsToldAfter, List, [], length, refl, sym, ◌<◌, ◌∙◌, ◌∷◌, ◌≡◌}
use Rattle.dn_laws.proofs.LawWords.{call_limit, Emulator, AnswersOneMore, ObeysTheLaws, emulated, IsLawful, calls_of, reply, Call, Submit, Advance, Entry, Rule}
use Rattle.dn_laws.proofs.{Determines.laws-determine, DropLaws.none-unconfigured, GivesHold.gives-hold, Isolation.only-commands-count, JoinsHold.joins-hold, JoinsHold.keeps-apart, JoinsHold.drops}
use Rattle.dn_laws.proofs.{Masks.flows-have-their-keys, PlainLawsHold.clock-configured, PlainLawsHold.clock-shown, PlainLawsHold.flows-stay, PlainLawsHold.flow-known, PlainLawsHold.flow-new}
use Rattle.dn_laws.proofs.{PlainLawsHold.flow-none, PlainLawsHold.deletes, PlainLawsHold.spares, PlainLawsHold.configures, PlainLawsHold.unconfigures, PlainLawsHold.refuses}
use Rattle.dn_laws.proofs.{PlainLawsHold.spares-others, PlainLawsHold.judges, PlainLawsHold.numbers, ReadingsObey.read, ReadingsObey.readings-obey, SettlingHolds.settles-hold, StatesHold.states-hold}
use Rattle.dn_laws.proofs.{ToldCommands.limit-is-counted, ToldCommands.replies-tell-the-clock, ToldCommands.commands-are-told}

one-more : (rule : Rule) (calls : List Call) → length calls < call_limit → AnswersOneMore rule (read rule) (emulated rule) calls
one-more rule calls lt = record {
  clock = record {
    submits = λ target packet moment. refl;
    advances = λ moment. refl;
    collects = λ moment. refl;
    configures = clock-configured calls;
    shows = clock-shown calls;
    told = λ target packet moment. (replies-tell-the-clock rule calls (Submit target packet moment) lt).0 tt;
    advanced = λ moment. (replies-tell-the-clock rule calls (Advance moment) lt).1 moment refl;
  };
  commands = record {
    told = λ command. commands-are-told rule calls command lt;
    configured = configures rule calls lt;
    deleted = unconfigures rule calls lt;
    refused = refuses rule calls lt;
    others = spares-others rule calls lt;
    only = λ c target h. only-commands-count calls c target h;
  };
  flows = record {
    known = λ target packet moment command mask carrier. flow-known calls target packet moment command mask carrier;
    new = λ target packet moment command mask carrier. flow-new calls target packet moment command mask carrier;
    none = λ target packet moment. flow-none calls target packet moment;
    stay = flows-stay calls;
    told = λ target packet moment command mask carrier flow set masks told. flows-have-their-keys rule calls target packet moment command mask carrier flow set masks told;
  };
  packets = record {
    no_target = λ target packet moment set. none-unconfigured rule calls target packet moment lt set;
    judged = judges rule calls lt;
    numbered = numbers rule calls lt;
  };
  links = record {
    settles = λ moment link. settles-hold rule calls moment link;
    collects = λ moment link. refl;
    shows = λ link. refl;
    joins = λ target packet moment at flow number command weight link. joins-hold rule calls lt target packet moment at flow number command weight link;
    apart = λ target packet moment at flow number command link other. keeps-apart rule calls lt target packet moment at flow number command link other;
    drops = λ target packet moment link. drops rule calls lt target packet moment link;
    deletes = deletes rule calls lt;
    spares = spares rule calls lt;
  };
  tells = record { gives = λ moment. gives-hold rule calls moment lt; states = states-hold rule calls lt };
}

pub laws-hold : (rule : Rule) → ObeysTheLaws rule (emulated rule)
laws-hold rule = record {
  readings = read rule;
  are_readings = readings-obey rule;
  clock_begins = refl;
  force_begins = λ target. refl;
  flows_begin = refl;
  nothing_happened = λ link. refl;
  one_more = one-more rule;
  limit = λ calls c many. (limit-is-counted rule calls c).1 many;
}

pub laws-give-the-replies : (rule : Rule) (e : Emulator) → ObeysTheLaws rule e → (calls : List Call) (c : Call) → e.told calls c ≡ reply rule calls c
laws-give-the-replies rule e h calls c = laws-determine rule e (emulated rule) h (laws-hold rule) calls c

lawful-told : (rule : Rule) (e : Emulator) → ObeysTheLaws rule e → (calls : List Call) (entries : List Entry) → IsLawfulAfter rule calls entries → IsToldAfter e calls entries
lawful-told rule e h calls [] l = tt
lawful-told rule e h calls (entry ∷ entries) l = (l.0 ∙ sym (laws-give-the-replies rule e h calls entry.call), lawful-told rule e h (entry.call ∷ calls) entries l.1)

told-lawful : (rule : Rule) (e : Emulator) → ObeysTheLaws rule e → (calls : List Call) (entries : List Entry) → IsToldAfter e calls entries → IsLawfulAfter rule calls entries
told-lawful rule e h calls [] t = tt
told-lawful rule e h calls (entry ∷ entries) t = (t.0 ∙ laws-give-the-replies rule e h calls entry.call, told-lawful rule e h (entry.call ∷ calls) entries t.1)

pub histories-by-the-laws : (rule : Rule) (e : Emulator) → ObeysTheLaws rule e → (history : List Entry) →
    (IsLawful rule history → IsToldAfter e [] history) × (IsToldAfter e [] history → IsLawful rule history)
histories-by-the-laws rule e h history = (lawful-told rule e h [] history, told-lawful rule e h [] history)

pub false-by-the-laws : FalseByTheLaws
false-by-the-laws rule e h front entry lawful wrong = (lawful-told rule e h [] front lawful, λ same. wrong (same ∙ laws-give-the-replies rule e h (calls_of front) entry.call))
