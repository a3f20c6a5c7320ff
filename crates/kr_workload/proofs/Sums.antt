-- What is counted of a session is its summary.
use Rattle.std.proofs.Common.{◌≡◌, ◌≤◌, ℕ, ◌+◌, ◌*◌, ◌-◌, ◌^◌, List, length, sym, ap, ◌∙◌, arith}
use Rattle.std.specs.Prelude.{filter, min, not, unsigned_abs}
use Rattle.kr_calls.specs.declared.events.Output.{Output}
use Rattle.kr_defs.proofs.Maps.{length-filter_le}
use Rattle.kr_workload.specs.declared.host.Host.{Host}
use Rattle.kr_workload.specs.declared.summary.Summary.{Summary}
use Rattle.kr_workload.specs.inner.Standing.{HasMade}
use Rattle.kr_workload.specs.Replies.{is_ok}
use Rattle.kr_workload.specs.Session.{Made, made_session, options}
use Rattle.kr_workload.specs.Summary.{led_of, replies_of, summary}
use Rattle.kr_workload.specs.inner.Counting.{capped_sum}
use Rattle.kr_workload.proofs.Counts.{joined}
use Rattle.kr_workload.proofs.Goings.{end_seen, image_seen}
use Rattle.kr_workload.proofs.Lengths.{session_few}
use Rattle.kr_workload.proofs.Playing.{given_so}

same_numbers : (a a' b b' c c' d d' e e' f f' : ℕ) → a ≡ a' → b ≡ b' → c ≡ c' → d ≡ d' → e ≡ e' → f ≡ f'
    → (let left : Summary = record { events = a; records = b; kept = c; ok = d; refused = e; led = f } in
    let right : Summary = record { events = a'; records = b'; kept = c'; ok = d'; refused = e'; led = f' } in left ≡ right)
same_numbers a a' b b' c c' d d' e e' f f' p q r s t u =
    ap (λ (x : ℕ). let sum : Summary = record { events = x; records = b; kept = c; ok = d; refused = e; led = f } in sum) p
    ∙ (ap (λ (x : ℕ). let sum : Summary = record { events = a'; records = x; kept = c; ok = d; refused = e; led = f } in sum) q
    ∙ (ap (λ (x : ℕ). let sum : Summary = record { events = a'; records = b'; kept = x; ok = d; refused = e; led = f } in sum) r
    ∙ (ap (λ (x : ℕ). let sum : Summary = record { events = a'; records = b'; kept = c'; ok = x; refused = e; led = f } in sum) s
    ∙ (ap (λ (x : ℕ). let sum : Summary = record { events = a'; records = b'; kept = c'; ok = d'; refused = x; led = f } in sum) t
    ∙ ap (λ (x : ℕ). let sum : Summary = record { events = a'; records = b'; kept = c'; ok = d'; refused = e'; led = x } in sum) u))))

-- a count that no number of 64 bits bounds yet
low : (n top : ℕ) → n ≤ top → min (n + 0) top ≡ n
low n top few = omega arith

counts_low : (count n : ℕ) → count ≡ capped_sum n 0 → n ≤ 2 ^ 64 - 1 → count ≡ n
counts_low count n is few = is ∙ low n (2 ^ 64 - 1) few

pub summed : (seed : ℕ) (made : Made) (host : Host) (stands : HasMade seed made host) → length made.events ≤ 10000000000 → (kept led : ℕ) → kept ≡ unsigned_abs host.engine.committed → led ≡ led_of host.engine.images.tip
    → (let found : Summary = record { events = host.tally.events; records = host.tally.records; kept = kept; ok = host.tally.ok; refused = host.tally.refused; led = led } in
    found ≡ summary (options seed) made.events)
unfolding summary
summed seed made host stands few kept led kept_is led_is =
    let given = given_so seed made.events host.engine stands.played in
    let replies = replies_of (joined stands.played.given) in
    let oks = length-filter_le is_ok replies in
    let others = length-filter_le (λ reply. not (is_ok reply)) replies in
    let small = stands.small in
    let told = small.replies in
    same_numbers _ _ _ _ _ _ _ _ _ _ _ _ (counts_low _ _ stands.counted.events_so (omega (arith, few)))
    (counts_low _ _ stands.counted.records_so (omega (arith, few, small.records)))
    (kept_is ∙ ap unsigned_abs (end_seen seed made host stands))
    (counts_low _ _ stands.counted.ok_so (omega (arith, few, told, oks)) ∙ ap (λ (g : List (List Output)). length (filter is_ok (replies_of (joined g)))) given)
    (counts_low _ _ stands.counted.refused_so (omega (arith, few, told, others)) ∙ ap (λ (g : List (List Output)). length (filter (λ reply. not (is_ok reply)) (replies_of (joined g)))) given)
    (led_is ∙ ap led_of (sym (image_seen seed made host stands)))

-- the events of a session are few
pub sum_is_few : (seed rounds : ℕ) (found : Summary) → found ≡ summary (options seed) (made_session seed rounds).events → found.events ≤ 625 + 4 * rounds
unfolding summary
sum_is_few seed rounds found is =
    let few = session_few seed rounds in
    let same = ap (λ (sum : Summary). sum.events) is in
    omega (arith, few, same)
