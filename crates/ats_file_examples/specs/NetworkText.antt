use Rattle.std.specs.Prelude.{ℕ, List, ◌++◌, codes}

-- The text of a network file with three to six tables of each array, whose numbers differ.

-- four stations, three bridges and six links
abbrev pub nodes_text : List ℕ
nodes_text =
    codes "format = 2\n"
    ++ codes "[[station]]\nname = \"s1\"\n"
    ++ codes "[[station]]\nname = \"s2\"\n"
    ++ codes "[[station]]\nname = \"s3\"\n"
    ++ codes "[[station]]\nname = \"s4\"\n"
    ++ codes "[[bridge]]\nname = \"b1\"\nprocessing_min_ns = 701\nprocessing_max_ns = 1501\nresidence_ns = 300001\n"
    ++ codes "[[bridge]]\nname = \"b2\"\nprocessing_min_ns = 802\nprocessing_max_ns = 1602\nresidence_ns = 300002\n"
    ++ codes "[[bridge]]\nname = \"b3\"\nprocessing_min_ns = 903\nprocessing_max_ns = 1703\nresidence_ns = 300003\n"

abbrev pub links_text : List ℕ
links_text =
    codes "[[link]]\na = \"s1\"\nb = \"b1\"\nmbps = 100\npropagation_ns = 41\n"
    ++ codes "[[link]]\na = \"s2\"\nb = \"b2\"\nmbps = 1000\npropagation_ns = 42\n"
    ++ codes "[[link]]\na = \"b3\"\nb = \"s3\"\nmbps = 10000\npropagation_ns = 43\n"
    ++ codes "[[link]]\na = \"b1\"\nb = \"b2\"\nmbps = 2500\npropagation_ns = 44\n"
    ++ codes "[[link]]\na = \"b2\"\nb = \"b3\"\nmbps = 5000\npropagation_ns = 45\n"
    ++ codes "[[link]]\na = \"s4\"\nb = \"b1\"\nmbps = 25000\npropagation_ns = 46\n"

-- four streams, by their paths and by their ends in turn, and three flows
abbrev pub streams_text : List ℕ
streams_text =
    codes "[[stream]]\nname = \"p\"\npath = [\"s1\", \"b1\", \"b2\", \"b3\", \"s3\"]\nclasses = [6, 5, 4, 3]\n"
    ++ codes "rate_bps = 5000001\nburst_bits = 20001\nmin_octets = 101\nmax_octets = 1001\ndeadline_ns = 900001\n"
    ++ codes "address = \"01:23:45:67:89:AB\"\nvlan = 701\n"
    ++ codes "[[stream]]\nname = \"q\"\nfrom = \"s2\"\nto = \"s4\"\nclass = 5\nrate_bps = 5000002\n"
    ++ codes "burst_bits = 20002\nmin_octets = 102\nmax_octets = 1002\n"
    ++ codes "[[stream]]\nname = \"r\"\npath = [\"s3\", \"b3\", \"b2\", \"s2\"]\nclass = 3\nrate_bps = 5000003\n"
    ++ codes "burst_bits = 20003\nmin_octets = 103\nmax_octets = 1003\ndeadline_ns = 900003\n"
    ++ codes "address = \"0a:1B:2c:3D:4e:5F\"\nvlan = 703\n"
    ++ codes "[[stream]]\nname = \"t\"\nfrom = \"s4\"\nto = \"s3\"\nclasses = [2, 4, 6, 7]\nrate_bps = 5000004\n"
    ++ codes "burst_bits = 20004\nmin_octets = 104\nmax_octets = 1004\ndeadline_ns = 900004\n"

abbrev pub flows_text : List ℕ
flows_text =
    codes "[[flow]]\nname = \"f\"\npath = [\"s1\", \"b1\", \"s4\"]\nmax_octets = 501\n"
    ++ codes "[[flow]]\nname = \"g\"\nfrom = \"s3\"\nto = \"s2\"\nmax_octets = 502\n"
    ++ codes "[[flow]]\nname = \"h\"\npath = [\"s2\", \"b2\", \"b1\", \"s4\"]\nmax_octets = 503\n"

abbrev pub network_text : List ℕ
network_text = nodes_text ++ links_text ++ streams_text ++ flows_text
