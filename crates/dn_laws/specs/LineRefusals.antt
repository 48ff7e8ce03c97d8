-- The laws of what a configuration line is beside its options: which words it has, which lines delete, what `ipfw` before a line
-- does, and which lines are refused, at which word.
use Rattle.std.specs.Prelude.{ℕ, ◌≡◌, ◌≢◌, ◌≤◌, ◌<◌, ◌+◌, ◌^◌, ◌⊎◌, ⊤, List, [], ◌∷◌, ◌++◌, length, codes, decimal, Some, None, Result, Ok, Err}
use Rattle.dn_config.specs.Line.{answer, command_of}
use Rattle.dn_config.specs.Words.{words}
use Rattle.dn_config.specs.declared.fault.LineFault.{LineFault}
use Rattle.dn_config.specs.declared.fault.LineFault.TheVariants.{UnknownWord, MissingValue, BadNumber, OutOfRange, LeftOut, NeedsPipe, OutOfMemory}
use Rattle.dn_laws.specs.Determined.Emulators.{Has}
use Rattle.dn_laws.specs.LineLaws.{Says}
use Rattle.dn_types.specs.declared.command.Command.{Command}
use Rattle.dn_types.specs.declared.command.Command.TheVariants.{DeletePipe, DeleteQueue}

-- A space, a tab and a carriage return stand between words, and `#` (35) begins a comment.
abbrev pub separators : List ℕ
separators = 32 ∷ 9 ∷ 13 ∷ []

abbrev pub IsBare : List ℕ → Type 0
IsBare [] = ⊤
IsBare (c ∷ w) = (c ≢ 35) × (Has separators c → ⊥) × IsBare w

abbrev pub IsWord : List ℕ → Type 0
IsWord w = (0 < length w) × IsBare w

-- The words of a line are these, and no others.
pub record WordsAreKnown : Type 0 where
  pub none : words [] ≡ []
  pub gap : (c : ℕ) (line : List ℕ) → Has separators c → words (c ∷ line) ≡ words line
  pub word : (w : List ℕ) (c : ℕ) (line : List ℕ) → IsWord w → Has separators c → words (w ++ c ∷ line) ≡ w ∷ words line
  pub last : (w : List ℕ) → IsWord w → words w ≡ w ∷ []
  pub comment : (line rest : List ℕ) → words (line ++ 35 ∷ rest) ≡ words line
  pub answers : (line : List ℕ) → answer line ≡ command_of (words line)

-- A line deletes exactly if its words are these. So words behind them are refused.
abbrev pub Deletes : List ℕ → ℕ → List (List ℕ) → Type 0
Deletes kind n ws = (before : List (List ℕ)) × Has ([] ∷ (codes "ipfw" ∷ []) ∷ []) before × (1 ≤ n) × (n ≤ 65535)
    × ((ws ≡ before ++ kind ∷ codes "delete" ∷ decimal n ∷ []) ⊎ (ws ≡ before ++ kind ∷ decimal n ∷ codes "delete" ∷ []))

abbrev pub DeletesAreKnown : Type 0
DeletesAreKnown = (n : ℕ) (ws : List (List ℕ)) →
    (command_of ws ≡ Ok (Some (DeletePipe n)) → Deletes (codes "pipe") n ws) × (Deletes (codes "pipe") n ws → command_of ws ≡ Ok (Some (DeletePipe n)))
    × (command_of ws ≡ Ok (Some (DeleteQueue n)) → Deletes (codes "queue") n ws) × (Deletes (codes "queue") n ws → command_of ws ≡ Ok (Some (DeleteQueue n)))

-- Behind `ipfw` a line says what it says without it, and each fault is a word later.
abbrev pub next : LineFault → LineFault
next (UnknownWord at) = UnknownWord (at + 1)
next (MissingValue at) = MissingValue (at + 1)
next (BadNumber at) = BadNumber (at + 1)
next (OutOfRange at) = OutOfRange (at + 1)
next (LeftOut at) = LeftOut (at + 1)
next (NeedsPipe at) = NeedsPipe (at + 1)
next OutOfMemory = OutOfMemory

abbrev pub later : {X : Type 0} → Result X LineFault → Result X LineFault
later (Ok x) = Ok x
later (Err fault) = Err (next fault)

pub record PrefixSaysNothing : Type 0 where
  pub alone : command_of (codes "ipfw" ∷ []) ≡ Err (MissingValue 1)
  pub twice : (ws : List (List ℕ)) → command_of (codes "ipfw" ∷ codes "ipfw" ∷ ws) ≡ Err (UnknownWord 2)
  pub before : (w : List ℕ) (ws : List (List ℕ)) → w ≢ codes "ipfw" → command_of (codes "ipfw" ∷ w ∷ ws) ≡ later (command_of (w ∷ ws))

-- What stands first, second and third: other words are refused where they stand, and a word that lacks at the one before it.
pub record HeadsAreKnown : Type 0 where
  pub none : command_of [] ≡ Ok None
  pub sched : (ws : List (List ℕ)) → command_of (codes "sched" ∷ ws) ≡ Err (LeftOut 1)
  pub first : (w : List ℕ) (ws : List (List ℕ)) → (Has (codes "ipfw" ∷ codes "pipe" ∷ codes "queue" ∷ codes "sched" ∷ []) w → ⊥) → command_of (w ∷ ws) ≡ Err (UnknownWord 1)

abbrev pub kinds : List (List ℕ)
kinds = codes "pipe" ∷ codes "queue" ∷ []

abbrev pub queries : List (List ℕ)
queries = codes "show" ∷ codes "list" ∷ []

pub record BehindKinds (kind : List ℕ) (n : ℕ) : Type 0 where
  pub no_number : command_of (kind ∷ []) ≡ Err (MissingValue 1)
  pub query : (w : List ℕ) (ws : List (List ℕ)) → Has queries w → command_of (kind ∷ w ∷ ws) ≡ Err (LeftOut 2)
  pub out : (k : ℕ) (ws : List (List ℕ)) → (k < 1) ⊎ (65535 < k) → k < 2 ^ 64 → command_of (kind ∷ decimal k ∷ ws) ≡ Err (OutOfRange 2)
  pub no_verb : command_of (kind ∷ decimal n ∷ []) ≡ Err (MissingValue 2)
  pub third : (w : List ℕ) (ws : List (List ℕ)) → Has queries w → command_of (kind ∷ decimal n ∷ w ∷ ws) ≡ Err (LeftOut 3)
  pub verb : (w : List ℕ) (ws : List (List ℕ)) → (Has (codes "config" ∷ codes "delete" ∷ queries) w → ⊥) → command_of (kind ∷ decimal n ∷ w ∷ ws) ≡ Err (UnknownWord 3)
  pub no_subject : command_of (kind ∷ codes "delete" ∷ []) ≡ Err (MissingValue 2)
  pub more : (w : List ℕ) (ws : List (List ℕ)) → command_of (kind ∷ codes "delete" ∷ decimal n ∷ w ∷ ws) ≡ Err (UnknownWord 4)
  pub more_behind : (w : List ℕ) (ws : List (List ℕ)) → command_of (kind ∷ decimal n ∷ codes "delete" ∷ w ∷ ws) ≡ Err (UnknownWord 4)

abbrev pub KindsAreKnown : Type 0
KindsAreKnown = (kind : List ℕ) (n : ℕ) → Has kinds kind → 1 ≤ n → n ≤ 65535 → BehindKinds kind n

-- Options are good where they make a line a command: for a queue, with a pipe before them.
abbrev pub starts : List (List ℕ × List (List ℕ))
starts = (codes "pipe", []) ∷ (codes "queue", codes "pipe" ∷ codes "1" ∷ []) ∷ []

abbrev pub AreGood : List ℕ → ℕ → List (List ℕ) → Type 0
AreGood kind n options = (start : List (List ℕ)) × (command : Command) × Has starts (kind, start) × Says kind n (start ++ options) command

-- The words that a line of each kind may have behind good options.
abbrev pub fields : List (List ℕ)
fields = codes "dst-ip" ∷ codes "src-ip" ∷ codes "dst-port" ∷ codes "src-port" ∷ codes "proto" ∷ codes "all" ∷ []

abbrev pub left_out : List (List ℕ)
left_out = codes "red" ∷ codes "gred" ∷ codes "ecn" ∷ codes "codel" ∷ codes "pie" ∷ codes "fq_codel" ∷ codes "fq_pie"
    ∷ codes "sched" ∷ codes "burst" ∷ codes "profile" ∷ codes "noerror" ∷ codes "src-ip6" ∷ codes "dst-ip6" ∷ codes "flow-id" ∷ []

abbrev pub options_of : List (List ℕ × List (List ℕ))
options_of = (codes "pipe", codes "bw" ∷ codes "delay" ∷ codes "queue" ∷ codes "plr" ∷ codes "buckets" ∷ [])
    ∷ (codes "queue", codes "weight" ∷ codes "pipe" ∷ codes "queue" ∷ codes "plr" ∷ codes "buckets" ∷ []) ∷ []

-- Behind good options any other word is refused where it stands, and an option without its value where its name stands.
pub record OptionsAreRefused (kind : List ℕ) (n : ℕ) (options : List (List ℕ)) (own : List (List ℕ)) : Type 0 where
  pub unknown : (w : List ℕ) (ws : List (List ℕ)) → (Has own w → ⊥) → (Has fields w → ⊥) → (Has left_out w → ⊥) → w ≢ codes "mask"
      → command_of (kind ∷ decimal n ∷ codes "config" ∷ options ++ w ∷ ws) ≡ Err (UnknownWord (length options + 4))
  pub missing : (w : List ℕ) → Has own w → command_of (kind ∷ decimal n ∷ codes "config" ∷ options ++ w ∷ []) ≡ Err (MissingValue (length options + 4))
  pub open_mask : command_of (kind ∷ decimal n ∷ codes "config" ∷ options ++ codes "mask" ∷ []) ≡ Err (MissingValue (length options + 4))

abbrev pub OtherWordsAreRefused : Type 0
OtherWordsAreRefused = (kind : List ℕ) (n : ℕ) (options own : List (List ℕ)) → 1 ≤ n → n ≤ 65535 → Has options_of (kind, own) → AreGood kind n options
    → OptionsAreRefused kind n options own

-- A word that is left out is told as such where the first option would stand.
abbrev pub LeftOutIsTold : Type 0
LeftOutIsTold = (kind : List ℕ) (n : ℕ) (w : List ℕ) (ws : List (List ℕ)) → Has kinds kind → 1 ≤ n → n ≤ 65535 → Has left_out w
    → command_of (kind ∷ decimal n ∷ codes "config" ∷ w ∷ ws) ≡ Err (LeftOut 4)

-- A queue without its pipe is refused: good options in which no word is `pipe` are no command alone.
abbrev pub Lacks : List ℕ → List (List ℕ) → Type 0
Lacks word [] = ⊤
Lacks word (w ∷ ws) = (w ≢ word) × Lacks word ws

abbrev pub PipesAreNeeded : Type 0
PipesAreNeeded = (n : ℕ) (options : List (List ℕ)) → 1 ≤ n → n ≤ 65535 → AreGood (codes "queue") n options → Lacks (codes "pipe") options
    → command_of (codes "queue" ∷ decimal n ∷ codes "config" ∷ options) ≡ Err (NeedsPipe 1)
