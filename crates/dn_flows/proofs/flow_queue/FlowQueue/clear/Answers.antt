-- The loop takes the packets out one by one, until none is left.
use Rattle.dn_flows.proofs.Words.{IfNone, IfSome, None, OnSome, Option, Some, Waiting, arith, ℕ, ◌<◌, ◌≡◌}
use Rattle.dn_flows.proofs.Chains.{shortens-more, lies-taken}
use Rattle.dn_flows.proofs.flow_queue.FlowQueue.clear.Goals as goal

-- a packet is answered where one waits
of-some : (r : Option Waiting) (len : ℕ) (P : Waiting → Type 0) → 0 < len → IfNone r (len ≡ 0) → IfSome r P → (first : Waiting) × P first
of-some None len P some none holds = absurd (omega arith)
of-some (Some first) len P some none holds = (first, holds)

on-some : (r : Option Waiting) (len : ℕ) (P : Type 0) → 0 < len → IfNone r (len ≡ 0) → OnSome r P → P
on-some None len P some none holds = absurd (omega arith)
on-some (Some first) len P some none holds = holds

pub loop-self-preserved : goal.loop-self-preserved
loop-self-preserved c =
    let some : 0 < c.loop-self.self.len = (let test = c.loop-self-test.true in omega arith) in
    let takes = of-some c.pop_front.result c.loop-self.self.len _ some c.pop_front.ensures.none c.pop_front.ensures.takes in
    record {
      lies = lies-taken c.loop-self.store c.pop_front.new.store takes.0 c.loop-self.self c.pop_front.new.self c.loop-self.invariant.lies takes.1;
      shortens =
          shortens-more c.args.store.now c.loop-self.store c.pop_front.new.store takes.0 c.args.self.now c.loop-self.self
          c.pop_front.new.self c.loop-self.invariant.shortens takes.1
          (on-some c.pop_front.result c.loop-self.self.len _ some c.pop_front.ensures.none c.pop_front.ensures.len)
          c.pop_front.ensures.capacity;
    }
