use Rattle.spur_heap.proofs.FollowedWords.{follows_then}
use Rattle.marker.proofs.FollowedHeaps.{all_followed}
use Rattle.marker.proofs.follow.follow_all.Goals as goal

pub returns-clause-follows : goal.returns-clause-follows
returns-clause-follows c =
    follows_then c.args.heap.now c.follow_handles.new.self c.follow_mourners.new.self
    (follows_then c.args.heap.now c.follow_special.new.self c.follow_handles.new.self
    (follows_then c.args.heap.now c.follow_classes.new.heap c.follow_special.new.self
    (follows_then c.args.heap.now c.follow_objects.new.heap c.follow_classes.new.heap (c.follow_objects.ensures.follows 0).follows c.follow_classes.ensures.follows.follows)
    c.follow_special.ensures.follows) c.follow_handles.ensures.follows) c.follow_mourners.ensures.follows

pub returns-clause-all : goal.returns-clause-all
returns-clause-all c =
    all_followed c.args.heap.now c.follow_objects.new.heap c.follow_classes.new.heap c.follow_special.new.self c.follow_handles.new.self c.follow_mourners.new.self c.follow_objects.ensures.follows
    c.follow_classes.ensures.follows c.follow_special.ensures.follows c.follow_special.ensures.followed c.follow_handles.ensures.follows c.follow_handles.ensures.followed c.follow_mourners.ensures.follows c.follow_mourners.ensures.followed
