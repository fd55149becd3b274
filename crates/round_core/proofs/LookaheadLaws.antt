-- A cut with a lookahead is allowed.
use Rattle.std.proofs.Common.{◌≡◌, ℕ, min, ◌+◌, ◌<◌, ◌≤◌, arith, inl, inr, ◌⊎◌, Option, Some, None}
use Rattle.round_core.specs.World.{Event, Send, Rules}
use Rattle.round_core.specs.Laws.{Health}
use Rattle.round_core.specs.Rounds.{IsAllowed}
use Rattle.round_core.specs.Lookahead.{window_end, IsAhead, IsPositive, LooksAhead, lookahead_cut, Steps, LooksAheadBySteps, stepped_cut}
use Rattle.round_core.proofs.ListLaws.{all-map}

end-above : (lookahead : Option ℕ) (stop from : ℕ) → IsPositive lookahead → from < stop → from < window_end lookahead stop from
end-above None stop from positive lt = lt
end-above (Some l) stop from positive lt = omega arith

end-within : (lookahead : Option ℕ) (stop from : ℕ) → window_end lookahead stop from ≤ stop
end-within None stop from = omega arith
end-within (Some l) stop from = omega arith

ahead-late : (lookahead : Option ℕ) (stop from now time : ℕ) → from ≤ now → IsAhead lookahead now time → window_end lookahead stop from ≤ time
ahead-late None stop from now time le ahead = absurd ahead
ahead-late (Some l) stop from now time le ahead = omega arith

module _ {Node Lan Load Text : Type 0} (rules : Rules Node Lan Load Text) (ok : Health Node Lan Load) where
  pub lookahead-allowed : (group_of : ℕ → ℕ) (lookahead : Option ℕ) (stop : ℕ) → LooksAhead rules ok group_of lookahead →
      IsAllowed rules ok stop (lookahead_cut group_of lookahead stop)
  lookahead-allowed group_of lookahead stop looks = record {
    lans = looks.lans;
    above = λ from lt. end-above lookahead stop from looks.positive lt;
    within = λ from lt. end-within lookahead stop from;
    closed = λ from lt w e effect healthy well start low is. all-map _ _ (λ s o. late from e s start o) effect.sends
        (looks.ahead w e effect healthy well is);
  }
    where
      late : (from : ℕ) (e : Event Load) (s : Send Load) → from ≤ e.key.time.0 →
          (group_of s.to ≡ group_of e.key.node.0) ⊎ IsAhead lookahead e.key.time.0 s.at →
          (group_of s.to ≡ group_of e.key.node.0) ⊎ (window_end lookahead stop from ≤ s.at)
      late from e s start (inl same) = inl same
      late from e s start (inr ahead) = inr (ahead-late lookahead stop from e.key.time.0 s.at start ahead)

  pub steps-allowed : (group_of : ℕ → ℕ) (steps : Steps) (stop : ℕ) → LooksAheadBySteps rules ok group_of steps →
      IsAllowed rules ok stop (stepped_cut group_of steps stop)
  steps-allowed group_of steps stop looks = record {
    lans = looks.lans;
    above = λ from lt. let a = looks.are_steps.above from in let p = looks.are_steps.positive from in omega arith;
    within = λ from lt. omega arith;
    closed = λ from lt w e effect healthy well start low is. all-map _ _ (λ s o. late from e s start low o) effect.sends
        (looks.ahead w e effect healthy well is);
  }
    where
      late : (from : ℕ) (e : Event Load) (s : Send Load) → from ≤ e.key.time.0 →
          e.key.time.0 < min (min (from + steps.lookahead from) (steps.next_step from)) stop →
          (group_of s.to ≡ group_of e.key.node.0) ⊎ (e.key.time.0 + steps.lookahead e.key.time.0 ≤ s.at) →
          (group_of s.to ≡ group_of e.key.node.0) ⊎ (min (min (from + steps.lookahead from) (steps.next_step from)) stop ≤ s.at)
      late from e s start low (inl same) = inl same
      late from e s start low (inr ahead) = inr (let within : e.key.time.0 < steps.next_step from = omega arith in
          let stays = looks.are_steps.stays from e.key.time.0 start within in omega arith)
