use Rattle.test_interfaces.proofs.station.Station.sent_frame.Given as goal

-- each turn takes an act out
abbrev pub decreases-loop-act : goal.decreases-loop-act
decreases-loop-act l = goal.left-loop-act l
