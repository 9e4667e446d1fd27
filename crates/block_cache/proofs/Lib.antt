mod LinkSetups
