-- The examples of 01, Refusals and where they point, for reading, with record 4 beside record 2 (02, #105), and streams that are accepted (01, Topology
-- stream), as one list: the bytes, in decimal, and what they read as. A new fact is one line.
-- Assumes nothing.
use Rattle.std.specs.Prelude.{ℕ, ◌+◌, ◌%◌, Bool, true, false, ◌&&◌, List, [], ◌∷◌, ◌++◌, T, eqb, take}
use Rattle.network.specs.Lists.{numbers_from, below, every, same_numbers}
use Rattle.topology_types.specs.declared.Link.{Link}
use Rattle.topology_types.specs.Topology.{Contents, contents}
use Rattle.stream_rules.specs.declared.Reading.{Reading}
use Rattle.stream_rules.specs.Reading.{reading}

pub data Claim : Type 0 where
  -- refused with a number, at
  refused : ℕ → ℕ → Claim
  -- number 0 at 0, and what the topology holds: IDs by place; of each link by number its places, its cost and its cost back; K
  returned : List ℕ → List (ℕ × ℕ × ℕ × ℕ) → ℕ → Claim

pub record Fact : Type 0 where
  pub stream : List ℕ
  pub claim : Claim

unfoldable pub same_links : List Link → List (ℕ × ℕ × ℕ × ℕ) → Bool
same_links [] [] = true
same_links [] (k ∷ ks) = false
same_links (l ∷ ls) [] = false
same_links (l ∷ ls) ((first, second, cost, back) ∷ ks) =
    eqb l.first.0 first && eqb l.second.0 second && eqb l.cost cost && eqb l.back back && same_links ls ks

unfoldable pub answers : Reading → ℕ → ℕ → Bool
answers r number at = eqb r.answer.number number && eqb r.answer.at at

unfoldable pub holding : Contents → List ℕ → List (ℕ × ℕ × ℕ × ℕ) → ℕ → Bool
holding c ids links limit = same_numbers c.ids ids && same_links c.links links && eqb c.limit limit

unfoldable pub claim_holds : Reading → Claim → Bool
claim_holds r (refused number at) = answers r number at
claim_holds r (returned ids links limit) = answers r 0 0 && holding (contents r.topology) ids links limit

unfoldable pub holds : Fact → Bool
holds fact = claim_holds (reading fact.stream) fact.claim

unfoldable pub reads : List ℕ → Claim → Fact
reads stream claim = record { stream = stream; claim = claim }

-- one router, with ID 1; two, with IDs 1 and 2; three, with IDs 1, 2 and 3
unfoldable pub one : List ℕ
one = 1 ∷ 0 ∷ 0 ∷ 0 ∷ 1 ∷ []

unfoldable pub two : List ℕ
two = 1 ∷ 0 ∷ 0 ∷ 0 ∷ 1 ∷ 1 ∷ 0 ∷ 0 ∷ 0 ∷ 2 ∷ []

unfoldable pub three : List ℕ
three = 1 ∷ 0 ∷ 0 ∷ 0 ∷ 1 ∷ 1 ∷ 0 ∷ 0 ∷ 0 ∷ 2 ∷ 1 ∷ 0 ∷ 0 ∷ 0 ∷ 3 ∷ []

-- 01, Two networks by hand: T, 31 bytes
unfoldable pub T-stream : List ℕ
T-stream =
    1 ∷ 0 ∷ 0 ∷ 0 ∷ 1 ∷ 1 ∷ 0 ∷ 0 ∷ 0 ∷ 2 ∷ 1 ∷ 0 ∷ 0 ∷ 0 ∷ 3 ∷ 2 ∷ 0 ∷ 1 ∷ 0 ∷ 1 ∷ 2 ∷ 1 ∷ 2 ∷ 0 ∷ 1 ∷ 2 ∷ 0 ∷ 2 ∷ 0 ∷ 3 ∷ 3 ∷ []

-- what f gives over the list, one after the other
unfoldable pub in_sequence : (ℕ → List ℕ) → List ℕ → List ℕ
in_sequence f [] = []
in_sequence f (x ∷ xs) = f x ++ in_sequence f xs

-- so many routers, at most 256, with IDs from 0
unfoldable pub routers : ℕ → List ℕ
routers n = in_sequence (λ id. 1 ∷ 0 ∷ 0 ∷ 0 ∷ id ∷ []) (below n)

-- place 0 linked to the n places after it, cost 1
unfoldable pub hub : ℕ → List ℕ
hub n = in_sequence (λ place. 2 ∷ 0 ∷ place ∷ 0 ∷ 1 ∷ []) (numbers_from 1 n)

-- halves from place 0 to the n places after it, cost 1, and from those to place 0
unfoldable pub sent : ℕ → List ℕ
sent n = in_sequence (λ place. 4 ∷ 0 ∷ place ∷ 0 ∷ 1 ∷ []) (numbers_from 1 n)

unfoldable pub received : ℕ → List ℕ
received n = in_sequence (λ place. 4 ∷ place ∷ 0 ∷ 0 ∷ 1 ∷ []) (numbers_from 1 n)

-- both, so that place 0 is linked to those
unfoldable pub exchanged : ℕ → List ℕ
exchanged n = in_sequence (λ place. 4 ∷ 0 ∷ place ∷ 0 ∷ 1 ∷ 4 ∷ place ∷ 0 ∷ 0 ∷ 1 ∷ []) (numbers_from 1 n)

-- 64 places in a ring, each linked to the next eight, cost 1: 512 links, 5 bytes each
unfoldable pub ring : List ℕ
ring = in_sequence (λ place. in_sequence (λ step. 2 ∷ place ∷ (place + step) % 64 ∷ 0 ∷ 1 ∷ []) (numbers_from 1 8)) (below 64)

-- By number of the refusal: what comes after 64 routers and 256 links, all their 512 halves; and after 64 routers, 255 links and a half. The 512th half
-- is listed there, the 513th is not.
unfoldable pub at_limits : List Fact
at_limits =
    reads (routers 64 ++ (take 1280 ring ++ (2 ∷ 31 ∷ 50 ∷ 0 ∷ 0 ∷ []))) (refused 7 1600)
    ∷ reads (routers 64 ++ (take 1280 ring ++ (2 ∷ 0 ∷ 1 ∷ 0 ∷ 1 ∷ []))) (refused 8 1600)
    ∷ reads (routers 64 ++ take 1285 ring) (refused 9 1600)
    ∷ reads (routers 64 ++ (take 1280 ring ++ (2 ∷ 31 ∷ 50 ∷ 0 ∷ 1 ∷ []))) (refused 9 1600)
    ∷ reads (routers 64 ++ (take 1280 ring ++ (4 ∷ 31 ∷ 50 ∷ 0 ∷ 0 ∷ []))) (refused 7 1600)
    ∷ reads (routers 64 ++ (take 1280 ring ++ (4 ∷ 1 ∷ 0 ∷ 0 ∷ 1 ∷ []))) (refused 8 1600)
    ∷ reads (routers 64 ++ (take 1280 ring ++ (4 ∷ 31 ∷ 50 ∷ 0 ∷ 1 ∷ []))) (refused 9 1600)
    ∷ reads (routers 64 ++ (take 1275 ring ++ (4 ∷ 31 ∷ 39 ∷ 0 ∷ 1 ∷ 2 ∷ 50 ∷ 60 ∷ 0 ∷ 1 ∷ []))) (refused 9 1600)
    ∷ reads (routers 64 ++ (take 1275 ring ++ (4 ∷ 31 ∷ 39 ∷ 0 ∷ 1 ∷ 4 ∷ 50 ∷ 60 ∷ 0 ∷ 1 ∷ 4 ∷ 60 ∷ 50 ∷ 0 ∷ 1 ∷ []))) (refused 9 1605)
    ∷ []

-- By number of the refusal, then what is returned; the last are topologies whose parts are apart (02, #107). Where a stream has two faults, the one that
-- is tested first is met.
unfoldable pub facts : List Fact
facts =
    reads [] (refused 1 0)
    ∷ reads (1 ∷ []) (refused 1 0)
    ∷ reads one (refused 1 5)
    ∷ reads (two ++ (2 ∷ 0 ∷ 1 ∷ 0 ∷ [])) (refused 1 10)
    ∷ reads (two ++ (4 ∷ 0 ∷ 1 ∷ 0 ∷ [])) (refused 1 10)
    ∷ reads (8 ∷ []) (refused 1 0)
    ∷ reads (7 ∷ []) (refused 2 0)
    ∷ reads (255 ∷ []) (refused 2 0)
    ∷ reads (one ++ (0 ∷ [])) (refused 2 5)
    ∷ reads (1 ∷ 0 ∷ 0 ∷ 0 ∷ 1 ∷ 1 ∷ 0 ∷ 0 ∷ 0 ∷ 1 ∷ []) (refused 3 5)
    ∷ reads (routers 64 ++ (1 ∷ 0 ∷ 0 ∷ 0 ∷ 0 ∷ [])) (refused 3 320)
    ∷ reads (routers 65) (refused 4 320)
    ∷ reads (2 ∷ 0 ∷ 1 ∷ 0 ∷ 10 ∷ []) (refused 5 0)
    ∷ reads (two ++ (2 ∷ 0 ∷ 255 ∷ 0 ∷ 1 ∷ [])) (refused 5 10)
    ∷ reads (two ++ (2 ∷ 2 ∷ 2 ∷ 0 ∷ 0 ∷ [])) (refused 5 10)
    ∷ reads (two ++ (2 ∷ 255 ∷ 0 ∷ 0 ∷ 0 ∷ [])) (refused 5 10)
    ∷ reads (4 ∷ 0 ∷ 1 ∷ 0 ∷ 10 ∷ []) (refused 5 0)
    ∷ reads (two ++ (4 ∷ 0 ∷ 255 ∷ 0 ∷ 1 ∷ [])) (refused 5 10)
    ∷ reads (two ++ (4 ∷ 2 ∷ 2 ∷ 0 ∷ 0 ∷ [])) (refused 5 10)
    ∷ reads (two ++ (4 ∷ 255 ∷ 0 ∷ 0 ∷ 0 ∷ [])) (refused 5 10)
    ∷ reads (one ++ (2 ∷ 0 ∷ 0 ∷ 0 ∷ 1 ∷ [])) (refused 6 5)
    ∷ reads (one ++ (2 ∷ 0 ∷ 0 ∷ 0 ∷ 0 ∷ [])) (refused 6 5)
    ∷ reads (one ++ (4 ∷ 0 ∷ 0 ∷ 0 ∷ 1 ∷ [])) (refused 6 5)
    ∷ reads (one ++ (4 ∷ 0 ∷ 0 ∷ 0 ∷ 0 ∷ [])) (refused 6 5)
    ∷ reads (two ++ (2 ∷ 0 ∷ 1 ∷ 0 ∷ 0 ∷ [])) (refused 7 10)
    ∷ reads (two ++ (2 ∷ 0 ∷ 1 ∷ 0 ∷ 1 ∷ 2 ∷ 0 ∷ 1 ∷ 0 ∷ 0 ∷ [])) (refused 7 15)
    ∷ reads (two ++ (4 ∷ 0 ∷ 1 ∷ 0 ∷ 0 ∷ [])) (refused 7 10)
    ∷ reads (two ++ (4 ∷ 0 ∷ 1 ∷ 0 ∷ 1 ∷ 4 ∷ 0 ∷ 1 ∷ 0 ∷ 0 ∷ [])) (refused 7 15)
    ∷ reads (two ++ (2 ∷ 0 ∷ 1 ∷ 0 ∷ 1 ∷ 2 ∷ 1 ∷ 0 ∷ 0 ∷ 1 ∷ [])) (refused 8 15)
    ∷ reads (two ++ (2 ∷ 0 ∷ 1 ∷ 0 ∷ 1 ∷ 2 ∷ 0 ∷ 1 ∷ 0 ∷ 1 ∷ [])) (refused 8 15)
    ∷ reads (two ++ (4 ∷ 0 ∷ 1 ∷ 0 ∷ 1 ∷ 4 ∷ 0 ∷ 1 ∷ 0 ∷ 2 ∷ [])) (refused 8 15)
    ∷ reads (two ++ (4 ∷ 0 ∷ 1 ∷ 0 ∷ 1 ∷ 2 ∷ 0 ∷ 1 ∷ 0 ∷ 1 ∷ [])) (refused 8 15)
    ∷ reads (two ++ (4 ∷ 0 ∷ 1 ∷ 0 ∷ 1 ∷ 2 ∷ 1 ∷ 0 ∷ 0 ∷ 1 ∷ [])) (refused 8 15)
    ∷ reads (two ++ (2 ∷ 0 ∷ 1 ∷ 0 ∷ 1 ∷ 4 ∷ 0 ∷ 1 ∷ 0 ∷ 1 ∷ [])) (refused 8 15)
    ∷ reads (two ++ (2 ∷ 0 ∷ 1 ∷ 0 ∷ 1 ∷ 4 ∷ 1 ∷ 0 ∷ 0 ∷ 1 ∷ [])) (refused 8 15)
    ∷ reads (two ++ (4 ∷ 0 ∷ 1 ∷ 0 ∷ 1 ∷ 4 ∷ 1 ∷ 0 ∷ 0 ∷ 1 ∷ 4 ∷ 0 ∷ 1 ∷ 0 ∷ 1 ∷ [])) (refused 8 20)
    ∷ reads (routers 18 ++ (hub 16 ++ (2 ∷ 1 ∷ 0 ∷ 0 ∷ 1 ∷ []))) (refused 8 170)
    ∷ reads (routers 18 ++ hub 17) (refused 10 170)
    ∷ reads (routers 18 ++ (hub 16 ++ (2 ∷ 17 ∷ 0 ∷ 0 ∷ 1 ∷ []))) (refused 10 170)
    ∷ reads (routers 18 ++ (hub 16 ++ (4 ∷ 0 ∷ 17 ∷ 0 ∷ 1 ∷ []))) (refused 10 170)
    ∷ reads (routers 18 ++ sent 17) (refused 10 170)
    ∷ reads (routers 18 ++ (exchanged 16 ++ (4 ∷ 0 ∷ 17 ∷ 0 ∷ 1 ∷ []))) (refused 10 250)
    ∷ reads (routers 18 ++ (sent 16 ++ (2 ∷ 0 ∷ 17 ∷ 0 ∷ 1 ∷ []))) (refused 10 170)
    ∷ reads (routers 18 ++ (sent 16 ++ (2 ∷ 17 ∷ 0 ∷ 0 ∷ 1 ∷ []))) (refused 10 170)
    ∷ reads (T-stream ++ (0 ∷ [])) (refused 11 31)
    ∷ reads (3 ∷ 0 ∷ []) (refused 11 1)
    ∷ reads (two ++ (3 ∷ 0 ∷ [])) (refused 11 11)
    ∷ reads (3 ∷ []) (refused 12 0)
    ∷ reads (8 ∷ 16 ∷ 3 ∷ []) (refused 12 2)
    ∷ reads (8 ∷ 0 ∷ []) (refused 16 0)
    ∷ reads (8 ∷ 17 ∷ []) (refused 16 0)
    ∷ reads (8 ∷ 5 ∷ 8 ∷ 0 ∷ []) (refused 16 2)
    ∷ reads T-stream (returned (1 ∷ 2 ∷ 3 ∷ []) ((0, 1, 1, 1) ∷ (1, 2, 1, 1) ∷ (0, 2, 3, 3) ∷ []) 3)
    ∷ reads (8 ∷ 5 ∷ one ++ (8 ∷ 7 ∷ 3 ∷ [])) (returned (1 ∷ []) [] 7)
    ∷ reads (8 ∷ 16 ∷ one ++ (8 ∷ 3 ∷ 3 ∷ [])) (returned (1 ∷ []) [] 3)
    ∷ reads (8 ∷ 16 ∷ one ++ (3 ∷ [])) (returned (1 ∷ []) [] 16)
    ∷ reads (8 ∷ 16 ∷ two ++ (2 ∷ 1 ∷ 0 ∷ 1 ∷ 2 ∷ 8 ∷ 7 ∷ 3 ∷ [])) (returned (1 ∷ 2 ∷ []) ((1, 0, 258, 258) ∷ []) 7)
    ∷ reads (8 ∷ 1 ∷ one ++ (3 ∷ [])) (returned (1 ∷ []) [] 1)
    ∷ reads (1 ∷ 1 ∷ 2 ∷ 3 ∷ 4 ∷ 3 ∷ []) (returned (16909060 ∷ []) [] 3)
    ∷ reads (two ++ (2 ∷ 1 ∷ 0 ∷ 1 ∷ 2 ∷ 3 ∷ [])) (returned (1 ∷ 2 ∷ []) ((1, 0, 258, 258) ∷ []) 3)
    ∷ reads (two ++ (2 ∷ 0 ∷ 1 ∷ 255 ∷ 255 ∷ 3 ∷ [])) (returned (1 ∷ 2 ∷ []) ((0, 1, 65535, 65535) ∷ []) 3)
    ∷ reads (two ++ (2 ∷ 0 ∷ 1 ∷ 0 ∷ 1 ∷ 1 ∷ 0 ∷ 0 ∷ 0 ∷ 3 ∷ 8 ∷ 5 ∷ 2 ∷ 1 ∷ 2 ∷ 0 ∷ 1 ∷ 3 ∷ []))
    (returned (1 ∷ 2 ∷ 3 ∷ []) ((0, 1, 1, 1) ∷ (1, 2, 1, 1) ∷ []) 5)
    ∷ reads (two ++ (4 ∷ 0 ∷ 1 ∷ 0 ∷ 2 ∷ 4 ∷ 1 ∷ 0 ∷ 1 ∷ 3 ∷ 3 ∷ [])) (returned (1 ∷ 2 ∷ []) ((0, 1, 2, 259) ∷ []) 3)
    ∷ reads (two ++ (4 ∷ 1 ∷ 0 ∷ 0 ∷ 2 ∷ 4 ∷ 0 ∷ 1 ∷ 255 ∷ 255 ∷ 3 ∷ [])) (returned (1 ∷ 2 ∷ []) ((1, 0, 2, 65535) ∷ []) 3)
    ∷ reads (two ++ (4 ∷ 0 ∷ 1 ∷ 0 ∷ 7 ∷ 4 ∷ 1 ∷ 0 ∷ 0 ∷ 7 ∷ 3 ∷ [])) (returned (1 ∷ 2 ∷ []) ((0, 1, 7, 7) ∷ []) 3)
    ∷ reads (three ++ (4 ∷ 0 ∷ 1 ∷ 0 ∷ 5 ∷ 2 ∷ 1 ∷ 2 ∷ 0 ∷ 7 ∷ 4 ∷ 1 ∷ 0 ∷ 0 ∷ 6 ∷ 3 ∷ []))
    (returned (1 ∷ 2 ∷ 3 ∷ []) ((1, 2, 7, 7) ∷ (0, 1, 5, 6) ∷ []) 3)
    ∷ reads (three ++ (4 ∷ 0 ∷ 1 ∷ 0 ∷ 5 ∷ 4 ∷ 2 ∷ 1 ∷ 0 ∷ 8 ∷ 4 ∷ 1 ∷ 2 ∷ 0 ∷ 7 ∷ 4 ∷ 1 ∷ 0 ∷ 0 ∷ 6 ∷ 3 ∷ []))
    (returned (1 ∷ 2 ∷ 3 ∷ []) ((2, 1, 8, 7) ∷ (0, 1, 5, 6) ∷ []) 3)
    ∷ reads (three ++ (2 ∷ 0 ∷ 1 ∷ 0 ∷ 1 ∷ 4 ∷ 0 ∷ 2 ∷ 0 ∷ 9 ∷ 2 ∷ 1 ∷ 2 ∷ 0 ∷ 1 ∷ 3 ∷ []))
    (returned (1 ∷ 2 ∷ 3 ∷ []) ((0, 1, 1, 1) ∷ (1, 2, 1, 1) ∷ []) 3)
    ∷ reads (two ++ (3 ∷ [])) (returned (1 ∷ 2 ∷ []) [] 3)
    ∷ reads (three ++ (3 ∷ [])) (returned (1 ∷ 2 ∷ 3 ∷ []) [] 3)
    ∷ reads (three ++ (2 ∷ 0 ∷ 1 ∷ 0 ∷ 1 ∷ 3 ∷ [])) (returned (1 ∷ 2 ∷ 3 ∷ []) ((0, 1, 1, 1) ∷ []) 3)
    ∷ reads (three ++ (2 ∷ 0 ∷ 2 ∷ 0 ∷ 1 ∷ 3 ∷ [])) (returned (1 ∷ 2 ∷ 3 ∷ []) ((0, 2, 1, 1) ∷ []) 3)
    ∷ reads (routers 4 ++ (2 ∷ 1 ∷ 2 ∷ 0 ∷ 1 ∷ 3 ∷ [])) (returned (0 ∷ 1 ∷ 2 ∷ 3 ∷ []) ((1, 2, 1, 1) ∷ []) 3)
    ∷ reads (two ++ (4 ∷ 0 ∷ 1 ∷ 0 ∷ 1 ∷ 3 ∷ [])) (returned (1 ∷ 2 ∷ []) [] 3)
    ∷ reads (two ++ (4 ∷ 1 ∷ 0 ∷ 0 ∷ 1 ∷ 3 ∷ [])) (returned (1 ∷ 2 ∷ []) [] 3)
    ∷ reads (routers 18 ++ (received 17 ++ (3 ∷ []))) (returned (below 18) [] 3)
    ∷ []

-- The one statement: every fact of the two lists holds, by computing it.
abbrev pub FactsHold : Type 0
FactsHold = T (every holds (at_limits ++ facts))
