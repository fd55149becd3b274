use Rattle.sim_base.proofs.PacketLaws.{pop_front-push_front, pop_back-push_back, first_is_whole-push_front, last_is_whole-push_back, peek-push_front, push_front-nil, push_back-nil, add_byte_tag-empty, remove_tag-absent}
use Rattle.sim_base.proofs.laws.calls_are_undone.Goals as goal

pub returns-clause-pop_front : goal.returns-clause-pop_front
returns-clause-pop_front c = pop_front-push_front

pub returns-clause-pop_back : goal.returns-clause-pop_back
returns-clause-pop_back c = pop_back-push_back

pub returns-clause-whole_front : goal.returns-clause-whole_front
returns-clause-whole_front c = first_is_whole-push_front

pub returns-clause-whole_back : goal.returns-clause-whole_back
returns-clause-whole_back c = last_is_whole-push_back

pub returns-clause-peek : goal.returns-clause-peek
returns-clause-peek c = peek-push_front

pub returns-clause-nothing_in_front : goal.returns-clause-nothing_in_front
returns-clause-nothing_in_front c = push_front-nil

pub returns-clause-nothing_behind : goal.returns-clause-nothing_behind
returns-clause-nothing_behind c = push_back-nil

pub returns-clause-nothing_to_tag : goal.returns-clause-nothing_to_tag
returns-clause-nothing_to_tag c = add_byte_tag-empty

pub returns-clause-absent_tag : goal.returns-clause-absent_tag
returns-clause-absent_tag c = remove_tag-absent
