-- A run of two links, computed. Node 0's link leads and calls for an append of what its daemon wrote; its lease ends, and node 1's link
-- wins the next campaign. So the append reaches the store too late and changes nothing, the first link gives up, and what node 1's daemon
-- wrote stands in the log; it is told so twice.
use Rattle.std.proofs.Common.{◌≡◌, ℕ, zero, suc, ◌+◌, List, [], ◌∷◌, refl, inl, arith}
use Rattle.std.specs.Prelude.{None, false, fold}
use Rattle.law_quorum.specs.Batches.{Batch}
use Rattle.law_quorum.specs.Changes.{Append, Campaign, Expire}
use Rattle.law_link.specs.Frames.{Commit, Lead, Lost}
use Rattle.kr_link.specs.declared.actions.Action.TheVariants as actions
use Rattle.kr_link.specs.declared.actions.DaemonFrame.TheVariants as frames
use Rattle.kr_link.specs.declared.actions.Guard.{Guard}
use Rattle.kr_link.specs.declared.link.LinkSettings.{LinkSettings}
use Rattle.kr_link.specs.declared.link.SeenLog.{SeenLog}
use Rattle.kr_link.specs.declared.roles.Held.{Held}
use Rattle.kr_link.specs.LinkMoves as calls
use Rattle.kr_link.specs.TimedLinks.{admits, asks_image, campaign_of, campaigning, closes, commits, considers, first_link, follows, gives_up, hears, holds, holds_any, is_awaited, is_below_end, is_below_image, is_follower, is_looking, is_ping_answer, is_served, is_stray, let_go, looks, may_campaign, notes, on_fail, on_join, on_refuse, on_see, on_stand, on_win, on_write, pinged, places_of, reads_batches, reads_image, resigns, serves, settles_campaign, stands_for, wants_image, with_ping_answer}
use Rattle.law_timed_links.specs.TimedLaws.{AreNames}
use Rattle.law_timed_links.specs.TimedRuns.{AllMayFollow, Arrives, Calls, Changes, Reaches, Takes, TimedEvent, Writes, timed_after, timed_start}

-- names of campaigns that differ: twice as great for the next link, and odd for the first
abbrev name : ℕ → ℕ → ℕ
name zero token = token + token + 1
name (suc life) token = name life token + name life token

are_names : AreNames name
are_names zero token zero number e = (refl, omega (arith, e))
are_names zero token (suc other) number e = absurd (omega (arith, e))
are_names (suc life) token zero number e = absurd (omega (arith, e))
are_names (suc life) token (suc other) number e =
    let halves : name life token ≡ name other number = omega (arith, e) in
    let same = are_names life token other number halves in
    let lives : life ≡ other = same.0 in
    (omega (arith, lives), same.1)

abbrev settings : ℕ → LinkSettings
settings k = record { term = 5000; images = 0 }

-- what each daemon wrote, in epochs 1 and 2
abbrev one : Batch
one = record { base = 0; count = 3; epoch = 1; bytes = [] }

abbrev two : Batch
two = record { base = 0; count = 2; epoch = 2; bytes = [] }

abbrev first : Held
first = record { epoch = 1; made = 1; start = 0 }

abbrev second : Held
second = record { epoch = 2; made = 3; start = 0 }

abbrev seen : SeenLog
seen = record { end = 0; is_led = false; image = 0 }

abbrev first_guard : Guard
first_guard = record { made = 1; end = 0 }

abbrev second_guard : Guard
second_guard = record { made = 3; end = 0 }

abbrev run : List TimedEvent
run =
    Calls 0 (calls.Join 0)
    ∷ Takes 0 (actions.Send frames.Ping) []
    ∷ Calls 0 (calls.Refuse 1 None 1)
    ∷ Takes 0 actions.Look []
    ∷ Calls 0 (calls.See seen 1)
    ∷ Takes 0 (actions.Campaign 0) []
    ∷ Reaches 0 0 (actions.Campaign 0) (Campaign 0 1 1)
    ∷ Calls 0 (calls.Win 0 first)
    ∷ Takes 0 (actions.Send (frames.Lead 1 0)) []
    ∷ Arrives 0 (Lead 1 0) []
    ∷ Writes 0 one
    ∷ Calls 0 (calls.Write one)
    ∷ Takes 0 (actions.Append first_guard (one ∷ [])) []
    ∷ Changes Expire
    ∷ Calls 1 (calls.Join 5000)
    ∷ Takes 1 (actions.Send frames.Ping) []
    ∷ Calls 1 (calls.Refuse 1 None 5001)
    ∷ Takes 1 actions.Look []
    ∷ Calls 1 (calls.See seen 5002)
    ∷ Takes 1 (actions.Campaign 0) []
    ∷ Reaches 1 0 (actions.Campaign 0) (Campaign 1 1 2)
    ∷ Reaches 0 0 (actions.Append first_guard (one ∷ [])) (Append 1 (one ∷ []))
    ∷ Calls 0 (calls.Fail 1 0)
    ∷ Takes 0 (actions.Send (frames.Lost 1)) (actions.Resign 1 ∷ [])
    ∷ Takes 0 (actions.Resign 1) []
    ∷ Arrives 0 (Lost 1) []
    ∷ Calls 1 (calls.Win 0 second)
    ∷ Takes 1 (actions.Send (frames.Lead 2 0)) []
    ∷ Arrives 1 (Lead 2 0) []
    ∷ Writes 1 two
    ∷ Calls 1 (calls.Write two)
    ∷ Takes 1 (actions.Append second_guard (two ∷ [])) []
    ∷ Reaches 1 0 (actions.Append second_guard (two ∷ [])) (Append 3 (two ∷ []))
    ∷ Calls 1 (calls.Stand 3 0)
    ∷ Calls 1 (calls.Stand 3 0)
    ∷ Takes 1 (actions.Send (frames.Commit 2 2)) []
    ∷ Arrives 1 (Commit 2 2) []
    ∷ []

may_follow : (make : List Batch → List ℕ) → AllMayFollow make name (timed_start settings) run
unfolding first_link on_join serves pinged on_refuse is_served is_ping_answer with_ping_answer looks let_go closes gives_up on_see is_looking notes considers wants_image asks_image places_of follows is_follower is_below_image is_below_end reads_image reads_batches stands_for may_campaign campaigning on_win settles_campaign campaign_of admits holds_any holds resigns on_write is_stray hears on_fail is_awaited on_stand commits
may_follow make = (
  refl,
  (
    refl,
    (
      tt,
      (
        refl,
        (
          tt,
          (
            refl,
            (
              (inl refl, (1, refl)),
              (
                (record { leadership = record { node = 0; token = 1; epoch = 1; made = 1; start = []; wrote = [] }; found = refl; holder = refl; key = refl; began = refl }, refl),
                (
                  refl,
                  (
                    refl,
                    (
                      record { leads = refl; base = refl; some = omega arith },
                      (
                        ([], refl),
                        (
                          refl,
                          (
                            tt,
                            (
                              refl,
                              (
                                refl,
                                (
                                  tt,
                                  (
                                    refl,
                                    (
                                      tt,
                                      (
                                        refl,
                                        (
                                          (inl refl, (2, refl)),
                                          (
                                            (inl refl, refl),
                                            (
                                              tt,
                                              (
                                                refl,
                                                (
                                                  refl,
                                                  (
                                                    refl,
                                                    (
                                                      (record { leadership = record { node = 1; token = 1; epoch = 2; made = 3; start = []; wrote = [] }; found = refl; holder = refl; key = refl; began = refl }, refl),
                                                      (
                                                        refl,
                                                        (
                                                          refl,
                                                          (
                                                            record { leads = refl; base = refl; some = omega arith },
                                                            (
                                                              ([], refl),
                                                              (
                                                                refl,
                                                                (
                                                                  (inl refl, refl),
                                                                  (
                                                                    record { life = 0; guard = second_guard; first = two; others = []; was_done = inl refl; key = refl; at = refl; seen = record { before = []; after = []; split = refl; begins = refl } },
                                                                    (
                                                                      record { life = 0; guard = second_guard; first = two; others = []; was_done = inl refl; key = refl; at = refl; seen = record { before = []; after = []; split = refl; begins = refl } },
                                                                      (
                                                                        refl,
                                                                        (refl, tt),
                                                                      ),
                                                                    ),
                                                                  ),
                                                                ),
                                                              ),
                                                            ),
                                                          ),
                                                        ),
                                                      ),
                                                    ),
                                                  ),
                                                ),
                                              ),
                                            ),
                                          ),
                                        ),
                                      ),
                                    ),
                                  ),
                                ),
                              ),
                            ),
                          ),
                        ),
                      ),
                    ),
                  ),
                ),
              ),
            ),
          ),
        ),
      ),
    ),
  ),
)

-- the log has what node 1's daemon wrote, and the other's isn't there
log_then : (fold timed_after (timed_start settings) run).cluster.point.log ≡ two ∷ []
unfolding first_link on_join serves pinged on_refuse is_served is_ping_answer with_ping_answer looks let_go closes gives_up on_see is_looking notes considers wants_image asks_image places_of follows is_follower is_below_image is_below_end reads_image reads_batches stands_for may_campaign campaigning on_win settles_campaign campaign_of admits holds_any holds resigns on_write is_stray hears on_fail is_awaited on_stand commits
log_then = refl

-- that has committed it, and the other one is on standby
committed_then : ((fold timed_after (timed_start settings) run).cluster.nodes 1).batches ≡ two ∷ []
unfolding first_link on_join serves pinged on_refuse is_served is_ping_answer with_ping_answer looks let_go closes gives_up on_see is_looking notes considers wants_image asks_image places_of follows is_follower is_below_image is_below_end reads_image reads_batches stands_for may_campaign campaigning on_win settles_campaign campaign_of admits holds_any holds resigns on_write is_stray hears on_fail is_awaited on_stand commits
committed_then = refl

standby_then : ((fold timed_after (timed_start settings) run).cluster.nodes 0).leads ≡ None
unfolding first_link on_join serves pinged on_refuse is_served is_ping_answer with_ping_answer looks let_go closes gives_up on_see is_looking notes considers wants_image asks_image places_of follows is_follower is_below_image is_below_end reads_image reads_batches stands_for may_campaign campaigning on_win settles_campaign campaign_of admits holds_any holds resigns on_write is_stray hears on_fail is_awaited on_stand commits
standby_then = refl
