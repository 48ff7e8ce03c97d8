-- The four words of 64 bits in which the table keeps and hashes a key: where its fields stand in them, and how they are read back.
use Rattle.std.specs.Prelude.{ℕ, ◌+◌, ◌*◌, ◌/◌, ◌%◌, ◌≤◌, cond, nat_eq, List, ◌++◌}
use Rattle.std.specs.Hash as fed
use Rattle.dn_types.specs.declared.flow_key.FlowKey.{FlowKey}
use Rattle.dn_types.specs.declared.target.Target.{Target}
use Rattle.dn_types.specs.declared.target.Target.TheVariants.{Pipe, Queue}

-- Two numbers of 32 bits side by side, and two of 16 bits.
abbrev pub beside : ℕ → ℕ → ℕ
beside high low = high * 4294967296 + low

abbrev pub ports : ℕ → ℕ → ℕ
ports high low = high * 65536 + low

-- A target by twice its number, and one more for a queue.
abbrev pub target_code : Target → ℕ
target_code (Pipe number) = number * 2
target_code (Queue number) = number * 2 + 1

-- A pipe, and the protocols of a mask and a tuple.
abbrev pub pipe_number : ℕ → ℕ → ℕ → ℕ
pipe_number pipe mask tuple = pipe * 65536 + (mask * 256 + tuple)

-- The writes into the hasher, which are the four words. What differs least from key to key comes first.
abbrev pub key_writes : FlowKey → List (List ℕ)
key_writes k = fed.u64 (beside (target_code k.target) (pipe_number k.pipe k.mask.proto k.tuple.proto)) ++ fed.u64 (beside k.mask.src k.mask.dst) ++ fed.u64 (beside (ports k.mask.sport k.mask.dport) (ports k.tuple.sport k.tuple.dport)) ++ fed.u64 (beside k.tuple.src k.tuple.dst)

-- ---- Back from the words

-- The halves of a word, and the ports in half a word.
abbrev pub high : ℕ → ℕ
high word = word / 4294967296

abbrev pub low : ℕ → ℕ
low word = word % 4294967296

abbrev pub first_port : ℕ → ℕ
first_port half = half / 65536

abbrev pub last_port : ℕ → ℕ
last_port half = half % 65536

-- The target, the pipe and the protocols of a mask and a tuple.
abbrev pub target_of : ℕ → Target
target_of number = cond (nat_eq (number % 2) 0) (Pipe (number / 2)) (Queue (number / 2))

abbrev pub pipe_in : ℕ → ℕ
pipe_in half = half / 65536

abbrev pub mask_protocol : ℕ → ℕ
mask_protocol half = half % 65536 / 256

abbrev pub tuple_protocol : ℕ → ℕ
tuple_protocol half = half % 256

-- The key whose fields stand in four words.
abbrev pub key_of_words : ℕ → ℕ → ℕ → ℕ → FlowKey
key_of_words numbers mask_addresses both_ports addresses =
    record {
      target = target_of (high numbers);
      pipe = pipe_in (low numbers);
      mask = record {
        src = high mask_addresses;
        dst = low mask_addresses;
        proto = mask_protocol (low numbers);
        sport = first_port (high both_ports);
        dport = last_port (high both_ports);
      };
      tuple = record {
        src = high addresses;
        dst = low addresses;
        proto = tuple_protocol (low numbers);
        sport = first_port (low both_ports);
        dport = last_port (low both_ports);
      };
    }

-- The number of a pipe or of a queue.
abbrev pub IsNumber : ℕ → Type 0
IsNumber n = (1 ≤ n) × (n ≤ 65535)

-- The word holds the numbers of a target and of a pipe.
abbrev pub HoldsNumbers : ℕ → Type 0
HoldsNumbers numbers = IsNumber (high numbers / 2) × IsNumber (pipe_in (low numbers))
